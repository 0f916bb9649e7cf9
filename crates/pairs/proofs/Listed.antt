-- What partner lists with no fault are.
use Rattle.std.proofs.Common.{◌≡◌, ℕ, ◌<◌, ◌≤◌, true, false, not, ltb, List, [], length, None, arith}
use Rattle.std.proofs.lemmas.List.{get_or_past}
use Rattle.std.proofs.lemmas.Bool.{and_parts, not-false}
use Rattle.refusal.specs.declared.Reason.TheVariants.{BadList, OneSided, ShortSpace}
use Rattle.pairs.specs.Checks.{first_fault, refuse_if, stands}
use Rattle.pairs.specs.Lists.{Listed, list_end, list_fault, list_of, list_start, lists_fault, lists_meaning, named_back, rising, side_fault}
use Rattle.pairs.proofs.Faults.{both_pass, let_pass, none_at, none_both}
use Rattle.pairs.proofs.Standing.{at_standing}

-- an entry of a rising list is below the size
rising_below : (size least : ℕ) (xs : List ℕ) (v : ℕ) → rising size least xs ≡ true → stands xs v ≡ true → v < size
rising_below size least xs v rise =
    at_standing (λ x. x < size) (λ ys. (low : ℕ) × (rising size low ys ≡ true))
    (λ x ys q. grind arith)
    xs v (least, rise)

-- an entry of a list that is named back has u in its own list
back_at : (ends entries : List ℕ) (u : ℕ) (xs : List ℕ) (v : ℕ) → named_back ends entries u xs ≡ true → stands xs v ≡ true → stands (list_of ends entries v) u ≡ true
back_at ends entries u =
    at_standing (λ x. stands (list_of ends entries x) u ≡ true) (λ ys. named_back ends entries u ys ≡ true)
    (λ x ys h. and_parts (stands (list_of ends entries x) u) _ h)

-- a place at or above the number of ends has no list
list_beyond : (ends entries : List ℕ) (u : ℕ) → length ends ≤ u → list_of ends entries u ≡ []
list_beyond ends entries u le = grind (arith, get_or_past)

module _ (ends entries : List ℕ) (none : lists_fault ends entries ≡ None) where
  few : length ends ≤ 256
  few = grind arith

  parts : (first_fault (list_fault ends entries) (length ends) ≡ None) × (first_fault (side_fault ends entries) (length ends) ≡ None)
  parts = grind (arith, none_both)

  -- what each list is by itself
  alone : (u : ℕ) → u < length ends → (not (rising (length ends) 0 (list_of ends entries u)) ≡ false) × (stands (list_of ends entries u) u ≡ false)
  alone u lt =
      let all = none_at (list_fault ends entries) (length ends) u parts.0 lt in
      let ended = (none_both (refuse_if (ltb (list_end ends u) (list_start ends u)) BadList u) _ all).1 in
      both_pass _ _ _ _ _ (none_both (refuse_if (ltb (length entries) (list_end ends u)) ShortSpace u) _ ended).1

  back : (u : ℕ) → u < length ends → named_back ends entries u (list_of ends entries u) ≡ true
  back u lt = not-false _ (let_pass _ OneSided u (none_at (side_fault ends entries) (length ends) u parts.1 lt))

  -- only a place has a list with an entry
  owner : (u v : ℕ) → stands (list_of ends entries u) v ≡ true → u < length ends
  owner u v has = grind (arith, list_beyond)

  paired : (u v : ℕ) → stands (list_of ends entries u) v ≡ true → (lists_meaning ends entries).partners u v ≡ true
  paired u v has =
      let place : u < length ends = owner u v has in
      let apart = alone u place in
      let partner = rising_below (length ends) 0 (list_of ends entries u) v (not-false _ apart.0) has in
      let other = back_at ends entries u (list_of ends entries u) v (back u place) has in
      grind (arith, few, apart.1)

  -- the lists alone tell the meaning
  pub listed : Listed ends entries (lists_meaning ends entries)
  listed = grind (arith, paired)
