-- The one stored form of the sets of a table (document 01, Collecting), and sets with one key more or less.
use Rattle.std.specs.Prelude.{ℕ, ◌+◌, ◌-◌, ◌≤◌, ◌<◌, ◌≡◌, Bool, true, false, cond, ◌&&◌, List, [], map, length, get_or, ltb}
use Rattle.rules.specs.Arrays.{padded, opened, shut}
use Rattle.rules.specs.Collecting.{Held, Entries, sets_meet, most_keys}
use Rattle.lists.specs.declared.IdList.{IdList}
use Rattle.lists.specs.Stored.{empty_list, store_maybe, Holds}
use Rattle.sets.specs.declared.Sets.{Sets}

abbrev pub key_in : Held → ℕ
key_in e = e.key

unfoldable pub on_in : Held → Bool
on_in e = e.state

-- the number of the block at which its set was last shown
unfoldable pub confirmed_in : Held → ℕ
confirmed_in e = e.stamp

unfoldable pub shown_in : Held → IdList
shown_in e = store_maybe e.shown

unfoldable pub draft_in : Held → IdList
draft_in e = store_maybe e.draft

-- entries in ascending key order from place 0 on, every unused place zero
unfoldable pub store_sets : Entries → Sets
store_sets c =
    record {
      count = length c;
      keys = padded most_keys 0 (map key_in c);
      on = padded most_keys false (map on_in c);
      confirmed = padded most_keys 0 (map confirmed_in c);
      shown = padded most_keys empty_list (map shown_in c);
      draft = padded most_keys empty_list (map draft_in c);
    }

-- sets with other states, numbers and lists, and with other open lists alone: the keys, and whatever else there is, stay
abbrev pub with_lists : Sets → List Bool → List ℕ → List IdList → List IdList → Sets
with_lists t on confirmed shown draft = record { count = t.count; keys = t.keys; on = on; confirmed = confirmed; shown = shown; draft = draft }

abbrev pub with_draft : Sets → List IdList → Sets
with_draft t draft = with_lists t t.on t.confirmed t.shown draft

-- what stands for a list past the end of an array
abbrev pub past : IdList
past = record { numbers = []; kinds = []; len = 0; named = 0 }

-- each of the first 32 lists is the stored form of one for its key, or of none
unfoldable pub EachHolds : List ℕ → List IdList → Type 0
EachHolds keys ls = (i : ℕ) → i < most_keys → Holds (get_or keys i 0) (get_or ls i past)

-- there is no list from a place on
unfoldable pub NoneFrom : ℕ → List IdList → Type 0
NoneFrom from ls = (i : ℕ) → i < most_keys → from ≤ i → (get_or ls i past).len ≡ 0

-- there is no number where there is no list
unfoldable pub NumbersHold : List ℕ → List IdList → Type 0
NumbersHold ns ls = (i : ℕ) → i < most_keys → (get_or ls i past).len ≡ 0 → get_or ns i 0 ≡ 0

-- sets with one key more at a place, its list open and no set shown; the same where there is no such place
unfoldable pub opened_sets : Sets → ℕ → ℕ → Bool → IdList → Sets
opened_sets t at key on l =
    cond (ltb at most_keys && ltb t.count most_keys)
    (record {
      count = t.count + 1;
      keys = opened at key t.keys;
      on = opened at on t.on;
      confirmed = opened at 0 t.confirmed;
      shown = opened at empty_list t.shown;
      draft = opened at l t.draft;
    })
    t

-- sets with one key less, the one at a place; the same where no key stands there
unfoldable pub shut_sets : Sets → ℕ → Sets
shut_sets t at =
    cond (ltb at most_keys && ltb at t.count)
    (record {
      count = t.count - 1;
      keys = shut at 0 t.keys;
      on = shut at false t.on;
      confirmed = shut at 0 t.confirmed;
      shown = shut at empty_list t.shown;
      draft = shut at empty_list t.draft;
    })
    t

-- the stored form of sets that meet their rules
unfoldable pub SetsStored : Sets → Type 0
SetsStored t = (c : Entries) × (sets_meet c ≡ true) × (t ≡ store_sets c)
