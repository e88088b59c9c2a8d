-- Reading step by step, as the code does it and as the parser does. In order: what was handed over says what the parser read; nothing
-- was read; going on; making something of what was read.
use Prim.Native.Nat.{ℕ}
use mathlib.Core.Path.{◌≡◌, refl, sym, ap, ◌∙◌}
use mathlib.Core.List.{List}
use mathlib.Core.Option.{Option, none, some, some-injective, none-ne-some}
use Rattle.std.specs.Prelude as lang
use Rattle.std.proofs.lemmas.Option.{none-some, same_Some}
use Rattle.layout.specs.Parse.{Read, and_then}
use Rattle.layout.proofs.ParseLaws.{then_go, then_none}
use Rattle.sheet.specs.declared.Reader.{Reader}
use Rattle.sheet.specs.Reading.{handed, Reads}

-- ---- what the parser read

handed_none : {A B : Type 0} (f : A → B) (o : Option (Read A)) → lang.None ≡ handed f o → o ≡ none
unfolding handed
handed_none f none e = refl
handed_none f (some r) e = absurd (none-some _ e)

record Handed {A B : Type 0} (f : A → B) (o : Option (Read A)) (x : B) : Type 0 where
  r : Read A
  there : o ≡ some r
  value_is : x ≡ f r.value

handed_some : {A B : Type 0} (f : A → B) (o : Option (Read A)) (x : B) → lang.Some x ≡ handed f o → Handed f o x
unfolding handed
handed_some f none x e = absurd (none-some _ (sym e))
handed_some f (some r) x e = record { r = r; there = refl; value_is = same_Some _ _ e }

-- it was read, and the reader stands after it
pub record IsRead {A B : Type 0} (f : A → B) (o : Option (Read A)) (old : Reader) (x : B) (new : Reader) : Type 0 where
  pub r : Read A
  pub there : o ≡ some r
  pub value_is : x ≡ f r.value
  pub stands : new ≡ record { bytes = old.bytes; at = r.next }

pub was_read : {A B : Type 0} {f : A → B} {o : Option (Read A)} {old new : Reader} {x : B} → Reads f o old (lang.Some x) new → IsRead f o old x new
was_read {f = f} {o} {x = x} e =
    let h = handed_some f o x e.given_is in
    record { r = h.r; there = h.there; value_is = h.value_is; stands = e.stands h.r h.there }

pub not_read : {A B : Type 0} {f : A → B} {o : Option (Read A)} {old new : Reader} → Reads f o old lang.None new → o ≡ none
not_read {f = f} {o} e = handed_none f o e.given_is

-- ---- nothing was read

pub reads_none : {A B : Type 0} {f : A → B} {o : Option (Read A)} {old new : Reader} {given : lang.Option B} → o ≡ none → given ≡ lang.None
    → Reads f o old given new
unfolding handed
reads_none {f = f} {o} e g = record { given_is = g ∙ sym (ap (handed f) e); stands = λ r q. absurd (none-ne-some _ (sym e ∙ q)) }

pub then_not : {A B C D : Type 0} {f : A → B} {g : C → D} {o : Option (Read A)} {old new end : Reader} {given : lang.Option D} (go : A → ℕ → Option (Read C))
    → Reads f o old lang.None new → given ≡ lang.None → Reads g (and_then o go) old given end
then_not go e h = reads_none (then_none go (not_read e)) h

-- ---- going on

pub reads_as : {A B : Type 0} {f : A → B} {o q : Option (Read A)} {old new : Reader} {given : lang.Option B} → o ≡ q → Reads f q old given new → Reads f o old given new
reads_as {f = f} e h = record { given_is = h.given_is ∙ sym (ap (handed f) e); stands = λ r p. h.stands r (sym e ∙ p) }

pub reads_here : {A : Type 0} {x : A} {new : Reader} → Reads (λ a. a) (some (record { value = x; next = new.at })) new (lang.Some x) new
unfolding handed
reads_here {new = new} = record { given_is = refl; stands = λ r e. λ i. record { bytes = new.bytes; at = (some-injective _ _ e i).next } }

-- from what was read and from where the reader stands then
pub then_reads : {A B C D : Type 0} {f : A → B} {g : C → D} {o : Option (Read A)} {old new end : Reader} {x : B} {given : lang.Option D}
    (go : List ℕ → B → ℕ → Option (Read C))
    → Reads f o old (lang.Some x) new → Reads g (go new.bytes.now x new.at) new given end
    → Reads g (and_then o (λ a next. go old.bytes.now (f a) next)) old given end
then_reads {f = f} {g} {o} {old} {new} {end} {x} go e h =
    let m = was_read e in
    let q : and_then o (λ a next. go old.bytes.now (f a) next) ≡ go new.bytes.now x new.at =
    then_go _ m.r m.there ∙ (λ i. go (sym m.stands i).bytes.now (sym m.value_is i) (sym m.stands i).at) in
    record {
      given_is = h.given_is ∙ sym (ap (handed g) q);
      stands = λ r p. h.stands r (sym q ∙ p) ∙ (λ i. record { bytes = (m.stands i).bytes; at = r.next });
    }

-- ---- making something of it

pub reads_made : {A B C D : Type 0} {f : A → B} {g : C → D} {o : Option (Read A)} {old new : Reader} {x : B}
    (make : A → C) (hand : B → D) → ((a : A) → hand (f a) ≡ g (make a)) → Reads f o old (lang.Some x) new
    → Reads g (and_then o (λ a next. some (record { value = make a; next = next }))) old (lang.Some (hand x)) new
unfolding handed
reads_made {f = f} {g} {o} {old} {new} {x} make hand same e =
    let m = was_read e in
    let q : and_then o (λ a next. some (record { value = make a; next = next })) ≡ some (record { value = make m.r.value; next = m.r.next }) =
    then_go _ m.r m.there in
    record {
      given_is = ap lang.Some (ap hand m.value_is ∙ same m.r.value) ∙ sym (ap (handed g) q);
      stands = λ r p. m.stands ∙ (λ i. record { bytes = old.bytes; at = (some-injective _ _ (sym q ∙ p) i).next });
    }

pub reads_some : {A B : Type 0} {f : A → B} {o : Option (Read A)} {old new : Reader} {given : lang.Option B} (r : Read A) → o ≡ some r
    → given ≡ lang.Some (f r.value) → new ≡ record { bytes = old.bytes; at = r.next } → Reads f o old given new
unfolding handed
reads_some {f = f} {old = old} r e g s =
    record {
      given_is = g ∙ sym (ap (handed f) e);
      stands = λ q p. s ∙ (λ i. record { bytes = old.bytes; at = (some-injective _ _ (sym e ∙ p) i).next });
    }
