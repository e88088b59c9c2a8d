-- Laws of what is written on a page. In order: nothing is written; one text after another (`writes_then`); a text a part at a time, as loops
-- write it (`Going`); a page that is opened over a lent buffer.
use Prim.Native.Nat.{ℕ, ◌+◌, ◌≤◌, min}
use native.Mathlib.Omega.{arith}
use mathlib.Core.Path.{◌≡◌, refl, sym, ap, ◌∙◌}
use mathlib.Core.List.{List, [], ◌++◌}
use lib.ListN.{length, length-append}
use Rattle.std.specs.Borrow.{MutBor}
use Rattle.out.specs.Put.{Puts}
use Rattle.out.specs.Page.{Opens, Writes}
use Rattle.out.specs.declared.Page.{Page}
use lib.Seq.{sets}
use Rattle.out.proofs.Runs.{sets_cut, puts_length, puts_as, puts_then}

-- a place past the end is as good as the end
puts_from : (l : List ℕ) (i : ℕ) (us m : List ℕ) (j : ℕ) → Puts l i us m j → Puts l (min i (length l)) us m j
puts_from l i us m j p = record { stored = p.stored ∙ sym (sets_cut us l i); after = omega (arith, p.after) }

pub writes_none : (p : Page) → Writes p [] p
writes_none p = record { held = refl; puts = record { stored = refl; after = omega arith }; reached = omega arith }

module _ {a b : Page} {us : List ℕ} where
  -- the same text, said in another way
  pub writes_as : {vs : List ℕ} → us ≡ vs → Writes a us b → Writes a vs b
  writes_as e w = record { held = w.held; puts = puts_as e w.puts; reached = omega (arith, w.reached, ap length e) }

  -- one text after another
  pub writes_then : {c : Page} {vs : List ℕ} → Writes a us b → Writes b vs c → Writes a (us ++ vs) c
  writes_then {c} {vs} w v =
      let long : length b.buffer.now ≡ length a.buffer.now = puts_length w.puts in
      let next : Puts b.buffer.now (min b.at (length a.buffer.now)) vs c.buffer.now (min c.at (length a.buffer.now)) =
      rw (← long) (puts_from b.buffer.now b.at vs c.buffer.now (min c.at (length b.buffer.now)) v.puts) in
      record {
        held = v.held ∙ w.held;
        puts = puts_then w.puts next;
        reached = omega (arith, w.reached, v.reached, long, length-append us vs);
      }

-- ---- a text a part at a time: whoever writes what is left on the page that is reached has written the whole

pub record Going (a : Page) (us : List ℕ) (b : Page) (vs : List ℕ) : Type 0 where
  pub whole : (c : Page) → Writes b vs c → Writes a us c

pub going_start : (a : Page) (us : List ℕ) → Going a us a us
going_start a us = record { whole = λ c w. w }

module _ {a b : Page} {us rest : List ℕ} where
  -- a part is written
  pub going_on : {d : Page} {ws vs : List ℕ} → rest ≡ ws ++ vs → Going a us b rest → Writes b ws d → Going a us d vs
  going_on e g w = record { whole = λ c v. g.whole c (writes_as (sym e) (writes_then w v)) }

  -- what is left, said in another way
  pub going_as : {vs : List ℕ} → rest ≡ vs → Going a us b rest → Going a us b vs
  going_as e g = record { whole = λ c v. g.whole c (writes_as (sym e) v) }

  -- nothing is left
  pub going_end : rest ≡ [] → Going a us b rest → Writes a us b
  going_end e g = g.whole b (writes_as (sym e) (writes_none b))

-- ---- a page over a lent buffer

pub opened_puts : {l : MutBor (List ℕ)} {p q : Page} {us : List ℕ} → Opens l p → Writes p us q
    → Puts l.now 0 us q.buffer.now (min q.at (length q.buffer.now))
opened_puts {l} {p} {q} {us} o w =
    let long : length q.buffer.now ≡ length p.buffer.now = puts_length w.puts in
    record { stored = w.puts.stored ∙ (λ i. sets (o.same i) (o.first i) us); after = omega (arith, w.puts.after, long, o.first, ap length o.same) }
