-- What a list of entries with no fault is.
use Rattle.std.proofs.Common.{◌≡◌, ℕ, ◌<◌, ◌≤◌, false, leb, List, length, get_or, take, None, ◌∙◌, arith}
use Rattle.std.proofs.lemmas.List.{get_or-take, length-take-le}
use Rattle.std.proofs.lemmas.Bool.{leb-false}
use Rattle.pairs.specs.Checks.{stands}
use Rattle.pairs.specs.Selections.{Apart, entry_fault, selection_fault}
use Rattle.pairs.proofs.Faults.{both_pass, none_at}
use Rattle.pairs.proofs.Pigeons.{at_most}
use Rattle.pairs.proofs.Standing.{stands_none}

module _ (size : ℕ) (chosen : List ℕ) (none : selection_fault size chosen ≡ None) where
  sound : (k : ℕ) → k < length chosen → (leb size (get_or chosen k 0) ≡ false) × (stands (take k chosen) (get_or chosen k 0) ≡ false)
  sound k lt = both_pass _ _ _ _ _ (none_at (entry_fault size chosen) (length chosen) k none lt)

  pub entries_below : (k : ℕ) → k < length chosen → get_or chosen k 0 < size
  entries_below k lt = leb-false _ _ (sound k lt).0

  pub entries_apart : Apart chosen
  entries_apart j k (less, lt, e) =
      let l : length (take k chosen) ≡ k = length-take-le k chosen (omega arith) in
      stands_none (take k chosen) (get_or chosen k 0) j (sound k lt).1 (omega arith) (get_or-take k chosen j 0 less ∙ e)

  pub entries_few : size ≤ 256 → length chosen ≤ 256
  entries_few few =
      let h : length chosen ≤ size = at_most size (length chosen) (λ k. get_or chosen k 0) entries_below (λ j k less lt e. entries_apart j k (less, lt, e)) in
      omega arith
