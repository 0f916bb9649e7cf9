-- Partner lists: the end of each place's list, and the lists end to end in a second space.
use Rattle.std.specs.Prelude.{◌≡◌, ℕ, ◌+◌, ◌-◌, min, Bool, true, false, cond, not, ◌&&◌, List, [], ◌∷◌, length, Option, ◌==◌, nat_le, nat_lt, slice_index, slice_range, refl}
use Rattle.std.proofs.Common.{sym, ap, arith, eqb-true, eq-eqb}
use Rattle.std.proofs.lemmas.Bool.{eqb-false}
use Rattle.std.specs.Option.{option_or}
use Rattle.refusal.specs.declared.Reason.TheVariants.{TooMany, BadList, ShortSpace, SelfPair, OneSided}
use Rattle.refusal.specs.declared.Refusal.{Refusal}
use Rattle.cliques.specs.Graph.{Graph, Lawful}
use Rattle.pairs.specs.Checks.{first_fault, refuse_if, stands}
use Rattle.pairs.specs.Tables.{graph_of, graph_of_lawful}

-- the entries from start up to end
abbrev pub part : ℕ → ℕ → List ℕ → List ℕ
part start end entries = slice_range entries start end

-- where u's list ends; 0 at or above the number of ends
abbrev pub list_end : List ℕ → ℕ → ℕ
list_end ends u = slice_index ends u

-- where u's list begins: at the end of the list before, or at 0
abbrev pub list_start : List ℕ → ℕ → ℕ
list_start ends u = cond (u == 0) 0 (list_end ends (u - 1))

-- u's list: the part of the second space between them
abbrev pub list_of : List ℕ → List ℕ → ℕ → List ℕ
list_of ends entries u = part (list_start ends u) (list_end ends u) entries

-- whether each entry is at least `least`, above the one before it, and below the size
abbrev pub rising : ℕ → ℕ → List ℕ → Bool
rising size least [] = true
rising size least (x ∷ xs) = nat_le least x && (nat_lt x size && rising size (x + 1) xs)

-- whether each place of the list names u in its own list
abbrev pub named_back : List ℕ → List ℕ → ℕ → List ℕ → Bool
named_back ends entries u [] = true
named_back ends entries u (v ∷ vs) = stands (list_of ends entries v) u && named_back ends entries u vs

-- what is wrong with u's list by itself: it ends below the one before, it ends past the second space, its entries do not
-- rise or one is no place, it names u
abbrev pub list_fault : List ℕ → List ℕ → ℕ → Option Refusal
list_fault ends entries u =
    option_or (refuse_if (nat_lt (list_end ends u) (list_start ends u)) BadList u)
    (option_or (refuse_if (nat_lt (length entries) (list_end ends u)) ShortSpace u)
    (option_or (refuse_if (not (rising (length ends) 0 (list_of ends entries u))) BadList u)
    (refuse_if (stands (list_of ends entries u) u) SelfPair u)))

-- u's list names a place that does not name u back
abbrev pub side_fault : List ℕ → List ℕ → ℕ → Option Refusal
side_fault ends entries u = refuse_if (not (named_back ends entries u (list_of ends entries u))) OneSided u

-- why partner lists are refused, or none: there are more than 256, a list is wrong by itself, a list is not named back
abbrev pub lists_fault : List ℕ → List ℕ → Option Refusal
lists_fault ends entries =
    option_or (refuse_if (nat_lt 256 (length ends)) TooMany 256)
    (option_or (first_fault (list_fault ends entries) (length ends))
    (first_fault (side_fault ends entries) (length ends)))

-- the meaning of any two spaces, checked or not: u and v are partners when each stands in the other's list; places from 256
-- on, and a place with itself, are left out. Where the spaces are checked, v in u's list alone says it (Listed)
abbrev pub lists_meaning : List ℕ → List ℕ → Graph
lists_meaning ends entries = graph_of (min (length ends) 256) (λ u v. not (u == v) && (stands (list_of ends entries u) v && stands (list_of ends entries v) u))

-- each end is a place, and u and v are partners exactly when v stands in u's list
abbrev pub Listed : List ℕ → List ℕ → Graph → Type 0
Listed ends entries g = (g.size ≡ length ends) × ((u v : ℕ) → g.partners u v ≡ stands (list_of ends entries u) v)

swapped : (e f x y : Bool) → e ≡ f → (not e && (x && y)) ≡ (not f && (y && x))
swapped e f true true h = ap (λ b. not b && true) h
swapped e f true false h = ap (λ b. not b && false) h
swapped e f false true h = ap (λ b. not b && false) h
swapped e f false false h = ap (λ b. not b && false) h

same_eqb : (u v : ℕ) → (u == v) ≡ (v == u)
same_eqb u v = decide (u == v) (v == u) refl refl
  where
    decide : (a b : Bool) → (u == v) ≡ a → (v == u) ≡ b → a ≡ b
    decide true true p q = refl
    decide false false p q = refl
    decide true false p q = absurd (eqb-false _ _ q (sym (eqb-true _ _ p)))
    decide false true p q = absurd (eqb-false _ _ p (sym (eqb-true _ _ q)))

-- any two spaces mean a lawful table
pub lists_lawful : (ends entries : List ℕ) → Lawful (lists_meaning ends entries)
lists_lawful ends entries =
    graph_of_lawful (min (length ends) 256) _ (omega arith)
    (λ u v. swapped (u == v) (v == u) (stands (list_of ends entries u) v) (stands (list_of ends entries v) u) (same_eqb u v))
    (λ u. ap (λ b. not b && (stands (list_of ends entries u) u && stands (list_of ends entries u) u)) (eq-eqb u u refl))
