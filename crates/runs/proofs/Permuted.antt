-- An order of all places is never refused as a selection.
use Rattle.std.proofs.Common.{◌≡◌, ℕ, ◌+◌, ◌<◌, true, false, List, [], ◌∷◌, length, get_or, take, drop, None, refl, arith}
use Rattle.std.proofs.lemmas.List.{take-append-drop, drop_more}
use Rattle.std.proofs.lemmas.Bool.{eqb-true, lt-leb}
use Rattle.pairs.specs.Checks.{stands}
use Rattle.pairs.proofs.Faults.{all_none}
use Rattle.pairs.specs.Selections.{entry_fault, selection_fault}
use Rattle.order.specs.Orders.{times, Permutation}
use Rattle.order.proofs.Counts.{many_append, in_here, in_there, places_in}

stands_times : (A : List ℕ) (w : ℕ) → stands A w ≡ true → 0 < times w A
stands_times [] w q = cc
stands_times (x ∷ xs) w q = grind (arith, stands_times xs w, in_here w x xs, in_there w x xs, eqb-true x w)

module _ (n : ℕ) (L : List ℕ) (perm : Permutation n L) (i : ℕ) (h : i < length L) where
  abbrev w : ℕ
  w = get_or L i 0

  -- the entry stands at i, so it would stand in L twice if it stood before i
  here : 0 < times w (drop i L)
  here = rw (drop_more L i 0 h) (in_here w w (drop (i + 1) L) refl)

  parts : times w L ≡ times w (take i L) + times w (drop i L)
  parts = rw (← many_append _ (take i L) (drop i L), take-append-drop) refl

  entry_passes : entry_fault n L i ≡ None
  entry_passes =
      let p = parts in
      let q = here in
      let m = perm w in
      let inside : w < n = places_in n w (times w L) m (omega arith) in
      let once : stands (take i L) w ≡ false = grind (arith, stands_times (take i L) w) in
      cc (lt-leb n w inside)

pub order_selects : (n : ℕ) (L : List ℕ) → Permutation n L → selection_fault n L ≡ None
order_selects n L perm = all_none (entry_fault n L) (length L) (entry_passes n L perm)
