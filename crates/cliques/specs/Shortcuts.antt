-- The same results by tests that need no completion and no second set: what a program computes.
use Rattle.std.specs.Prelude.{ℕ, zero, suc, Bool, cond, not, ◌&&◌, ◌||◌, List, [], ◌∷◌, ◌++◌, length, nat_lt}
use Rattle.cliques.specs.Graph.{Graph}
use Rattle.cliques.specs.Sets.{has, every, first_of, smallest, places, partner_of_all}
use Rattle.cliques.specs.Completion.{partners_below}

-- The members below k of the completion of X, appended in rising order: each place that is in X, or that is a partner of all
-- of X and of all written so far.
abbrev pub append_pass : Graph → ℕ → List ℕ → List ℕ
append_pass g zero X = []
append_pass g (suc k) X =
    let G = append_pass g k X in
    cond (has k X || (partner_of_all g k X && partner_of_all g k G)) (G ++ (k ∷ [])) G

-- The barrier of the place x at K: the first member that is no partner of x, where that lies above x; else 0.
abbrev pub barrier : Graph → List ℕ → ℕ → ℕ
barrier g K x =
    let u = first_of (λ y. not (g.partners x y)) K in
    cond (nat_lt x u) u 0

-- The largest of K's smallest member and the barriers of the places below k.
abbrev pub largest_barrier : Graph → ℕ → List ℕ → ℕ
largest_barrier g zero K = smallest K
largest_barrier g (suc k) K =
    let I = largest_barrier g k K in
    cond (nat_lt I (barrier g K k)) (barrier g K k) I

-- The completion of X is K, for a part X of a maximal clique K: no place with a barrier is a partner of all of X.
abbrev pub completes_to : Graph → List ℕ → List ℕ → Bool
completes_to g X K = every (λ w. not (nat_lt 0 (barrier g K w) && partner_of_all g w X)) (places g.size)

-- The completion of P and v adds nothing below v, for a clique P of partners of v below v: no partner of v below v is a
-- partner of all of P.
abbrev pub adds_none_below : Graph → ℕ → List ℕ → Bool
adds_none_below g v P = every (λ w. not (g.partners v w && partner_of_all g w P)) (places v)

-- K has a child at v.
abbrev pub is_child_by_barriers : Graph → List ℕ → ℕ → Bool
is_child_by_barriers g K v =
    let P = partners_below g v K in
    not (has v K) && (nat_lt 0 (length P) && (completes_to g P K && adds_none_below g v P))
