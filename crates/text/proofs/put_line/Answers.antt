-- `text::put_line` meets its contract: its parts one after another.
use Prim.Native.Nat.{ℕ}
use native.Mathlib.Omega.{arith}
use mathlib.Core.Path.{◌≡◌, ap}
use mathlib.Core.Bool.{Bool}
use mathlib.Core.List.{◌∷◌, ◌++◌}
use lib.ListN.{length}
use Rattle.rules.specs.Field.{rds, drm}
use Rattle.rules.specs.Collecting.{key_width, most_ids}
use Rattle.out.specs.Text.{hex_text}
use Rattle.text.specs.Listing.{state_text, pairs_text, dead_text, ids_text}
use Rattle.text.specs.Confirmed.{line_with}
use Rattle.text.specs.Lines.{number_text}
use Rattle.text.proofs.Texts.{names_rds, names_drm}
use Rattle.lists.specs.Stored.{pairs_in}
use Rattle.lists.proofs.PairLaws.{length_pairs_in}
use Rattle.out.proofs.Pages.{writes_as, writes_then}
use Rattle.sets.specs.Shown.{set_in, shown_as}
use borrow.Author.Rules.{rules}
use Rattle.text.proofs.put_line.Goals as goal

pub returns : goal.returns
unfolding line_with shown_as set_in
returns c =
    let l = c.args.line in
    let list = c.args.list.now in
    let ids = pairs_in list.kinds list.numbers list.len in
    let ns : length list.numbers ≡ most_ids = search rules in
    let ks : length list.kinds ≡ most_ids = search rules in
    let n : c.min.result ≡ length ids = omega (arith, c.min.ensures, length_pairs_in list.kinds list.numbers list.len) in
    let head = writes_as (ap (λ (k : ℕ). hex_text 4 l.key ++ 32 ∷ state_text l.on ++ (number_text l.numbered l.block ++ ids_text k)) n) c.put_head.ensures in
    let text = writes_as (ap (pairs_text (key_width l.key)) c.pairs.ensures.pairs) c.put_pairs.ensures in
    let r = writes_as (ap (λ (b : Bool). dead_text rds b ids) (names_rds list.named)) c.put_mark.ensures in
    let m = writes_as (ap (λ (b : Bool). dead_text drm b ids) (names_drm list.named)) c.put_mark-2.ensures in
    writes_then (writes_then (writes_then (writes_then head text) r) m) c.put.ensures
