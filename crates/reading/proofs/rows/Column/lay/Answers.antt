use Prim.Native.Nat.{ℕ, ◌+◌}
use native.Mathlib.Omega.{arith}
use mathlib.Core.Path.{◌≡◌, refl, sym, ap, ◌∙◌}
use mathlib.Core.Bool.{false}
use mathlib.Core.List.{map}
use lib.ListN.{length, take, length-map, length-set}
use lib.Seq.{take_all}
use Rattle.rules.specs.Collecting.{most_keys, most_ids}
use Rattle.rules.proofs.Basics.{get_d_map, length_of_map}
use Rattle.sets.specs.Stored.{past}
use Rattle.reading.specs.Gathered.{gathered, packed}
use Rattle.reading.proofs.GatheredLaws.{row_size_law, part_long, splice_long, length_gathered, gathered_set, next_list}
use borrow.Author.Rules.{rules}
use Rattle.reading.proofs.rows.Column.lay.Goals as goal

pub loop-p-init : goal.loop-p-init
loop-p-init c =
    record { whole = record { numbers = search rules; kinds = search rules; lens = search rules; names = search rules; changed = search rules }; long = search (length_of_map, rules); same = refl }

pub lay-row-requires : goal.lay-row-requires
lay-row-requires c = (part_long c.loop-p.p _ (row_size_law c.loop-p.p) c.loop-p-test.true c.loop-p.self.numbers c.loop-p.invariant.whole.numbers, part_long c.loop-p.p _ (row_size_law c.loop-p.p) c.loop-p-test.true c.loop-p.self.kinds c.loop-p.invariant.whole.kinds)

pub loop-p-preserved : goal.loop-p-preserved
loop-p-preserved c =
    let l = c.loop-p in
    let h = c.loop-p-test.true in
    let w = l.invariant.whole in
    let y = c.lay-row.new in
    let ln : length y.numbers ≡ most_ids = search rules in
    let lk : length y.kinds ≡ most_ids = search rules in
    rw c.put.ensures
    (record {
      whole = record { numbers = splice_long l.p _ (row_size_law l.p) h l.self.numbers w.numbers y.numbers ln; kinds = splice_long l.p _ (row_size_law l.p) h l.self.kinds w.kinds y.kinds lk; lens = simp length-set w.lens; names = simp length-set w.names; changed = simp length-set w.changed };
      long = l.invariant.long;
      same =
          ap (take (l.p + 1)) (gathered_set l.self.numbers l.self.kinds l.self.rows w l.p _ (row_size_law l.p) h y.numbers y.kinds ln lk c.lay-row.result.len c.lay-row.result.named false)
          ∙ next_list _ (map packed c.args.lists.now) l.p _ (packed past) (omega (arith, length_gathered _ _ _ w)) (omega (arith, length-map c.args.lists.now packed, l.invariant.long)) l.invariant.same
          (c.lay-row.ensures ∙ sym (get_d_map packed c.args.lists.now l.p (packed past) past (omega (arith, l.invariant.long))));
    })

pub returns : goal.returns
returns c =
    let l = c.loop-p in
    let v = l.invariant in
    let e : l.p ≡ most_keys = omega arith in
    record { whole = v.whole; same = sym (take_all most_keys _ (omega (arith, length_gathered _ _ _ v.whole))) ∙ ap (λ (n : ℕ). take n (gathered l.self.numbers l.self.kinds l.self.rows)) (sym e) ∙ v.same ∙ ap (λ (n : ℕ). take n (map packed c.args.lists.now)) e ∙ take_all most_keys _ (omega (arith, length-map c.args.lists.now packed, v.long)) }
