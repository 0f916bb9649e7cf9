-- A selection: the places of a table below that a list names, in the list's order.
use Rattle.std.specs.Prelude.{◌≡◌, ℕ, ◌<◌, ◌≤◌, Bool, true, false, cond, List, length, take, Option, ◌≢◌, nat_le, nat_lt, slice_index, slice_index_or, refl}
use Rattle.std.proofs.Common.{sym, ◌∙◌, arith, ltb-true}
use Rattle.std.specs.Option.{option_or}
use Rattle.refusal.specs.declared.Reason.TheVariants.{BadList, Repeated}
use Rattle.refusal.specs.declared.Refusal.{Refusal}
use Rattle.cliques.specs.Graph.{Graph, Lawful}
use Rattle.pairs.specs.Checks.{first_fault, refuse_if, stands}
use Rattle.pairs.specs.Tables.{Distinct, graph_of, graph_of_lawful}

-- no two entries are equal
abbrev pub Apart : List ℕ → Type 0
Apart chosen = (j k : ℕ) → (j < k) × (k < length chosen) × (slice_index chosen j ≡ slice_index chosen k) → ⊥

-- the meaning of a selection: two of its places are partners when their entries are partners below
abbrev pub selected : Graph → List ℕ → Graph
selected g chosen = graph_of (length chosen) (λ p q. g.partners (slice_index chosen p) (slice_index chosen q))

-- the stamp at a place of a selection is that of its entry below
abbrev pub selected_stamps : (ℕ → ℕ) → List ℕ → ℕ → ℕ
selected_stamps stamps chosen p = cond (nat_lt p (length chosen)) (stamps (slice_index chosen p)) 0

-- what is wrong with the entry at i, for a table below of the size: it is no place there, or it is an earlier entry again
abbrev pub entry_fault : ℕ → List ℕ → ℕ → Option Refusal
entry_fault size chosen i =
    option_or (refuse_if (nat_le size (slice_index chosen i)) BadList i)
    (refuse_if (stands (take i chosen) (slice_index chosen i)) Repeated i)

-- why a selection from a table of the size is refused, or none
abbrev pub selection_fault : ℕ → List ℕ → Option Refusal
selection_fault size chosen = first_fault (entry_fault size chosen) (length chosen)

-- a selection of at most 256 places keeps the laws of the table below
pub selected_lawful : (g : Graph) (chosen : List ℕ) → length chosen ≤ 256 → Lawful g → Lawful (selected g chosen)
selected_lawful g chosen few lawful = graph_of_lawful (length chosen) _ few (λ p q. lawful.both _ _) (λ p. lawful.apart _)

stamped : (a : Bool) (x : ℕ) → (cond a x 0 ≢ 0) → (a ≡ true) × (cond a x 0 ≡ x)
stamped true x h = (refl, refl)
stamped false x h = absurd (h refl)

-- a selection of different places keeps stamps distinct
pub selected_distinct : (stamps : ℕ → ℕ) (chosen : List ℕ) → Apart chosen → Distinct stamps → Distinct (selected_stamps stamps chosen)
selected_distinct stamps chosen apart distinct p q e nonzero =
    let a = stamped (nat_lt p (length chosen)) (stamps (slice_index chosen p)) nonzero in
    let b = stamped (nat_lt q (length chosen)) (stamps (slice_index chosen q)) (λ z. nonzero (e ∙ z)) in
    let same : slice_index_or chosen p 0 ≡ slice_index_or chosen q 0 = distinct _ _ (sym a.1 ∙ e ∙ b.1) (λ z. nonzero (a.1 ∙ z)) in
    let not-below : p < q → ⊥ = λ l. apart p q (l, ltb-true _ _ b.0, same) in
    let not-above : q < p → ⊥ = λ l. apart q p (l, ltb-true _ _ a.0, sym same) in
    omega (arith, not-below, not-above)
