-- What a stored set hands out.
use Prim.Native.Nat.{ℕ, ◌+◌, ◌<◌, ◌≤◌}
use native.Mathlib.Omega.{arith}
use mathlib.Core.Path.{◌≡◌, refl, sym, ap, ap₂, ◌∙◌}
use mathlib.Core.Bool.{true, ◌||◌, cond}
use mathlib.Core.List.{List, ◌++◌, map}
use mathlib.Core.Option.{Option, none, some}
use lib.ListN.{length, get_or, set, take, drop, length-map, length-drop, length-append, get_or-append}
use lib.Dec.{ltb}
use lib.Seq.{length-take-le, get_or-take, take-append-le, take_all}
use borrow.Author.Tests.{ne_eqb}
use Rattle.rules.specs.Arrays.{padded}
use Rattle.rules.specs.declared.Outcome.TheVariants.{Done, ShortBuffer}
use Rattle.rules.specs.Field.{number_in, kind_in}
use Rattle.rules.specs.Collecting.{IdSet, Held, if_there, most_ids}
use Rattle.rules.specs.Outcomes.{overwritten, not_copied, copy_set}
use Rattle.rules.proofs.Arrays.{take_padded}
use Rattle.lists.specs.Stored.{store_list, empty_list, store_maybe}
use Rattle.lists.proofs.StoredLaws.{stored_some}
use Rattle.table.specs.Answers.{copy_stored}

-- what is handed out is what the rules hand out
pub copy_stored_law : (key : ℕ) (e : Held) (o : Option IdSet) (ns ks : List ℕ) → if_there key o ≡ true
    → copy_stored (store_maybe o) e.key e.state e.stamp ns ks ≡ copy_set e o ns ks
unfolding copy_stored copy_set store_maybe store_list empty_list
copy_stored_law key e none ns ks m = refl
copy_stored_law key e (some l) ns ks m =
    let n = length l.items in
    let a : take n (padded most_ids 0 (map number_in l.items)) ≡ map number_in l.items =
    take_padded most_ids 0 (map number_in l.items) n (length-map l.items number_in) in
    let b : take n (padded most_ids 0 (map kind_in l.items)) ≡ map kind_in l.items =
    take_padded most_ids 0 (map kind_in l.items) n (length-map l.items kind_in) in
    rw (ne_eqb n 0 (stored_some key l m))
    (λ i. cond (ltb (length ns) n || ltb (length ks) n) (not_copied ShortBuffer ns ks)
    (record {
      outcome = Done;
      key = e.key;
      on = e.state;
      named = l.named;
      confirmed = e.stamp;
      count = n;
      numbers = overwritten (a i) ns;
      kinds = overwritten (b i) ks;
    }))
