-- A list that passes the checks is a clique, or a maximal clique.
use Rattle.std.proofs.Common.{◌≡◌, ℕ, suc, ◌-◌, ◌<◌, ◌≤◌, Bool, true, false, not, ◌&&◌, T, eqb, ltb, leb, List, [], ◌∷◌, length, get_or, take, None, sym, refl, ap, ◌∙◌, subst, inl, inr, arith, T_not}
use Rattle.std.specs.Option.{option_or}
use Rattle.std.proofs.lemmas.List.{get_or-take, length-take-le}
use Rattle.std.proofs.lemmas.Bool.{eqb-false, leb-false, ltb-false, not-false, or_parts, and_cases, cases_order}
use Rattle.refusal.specs.declared.Reason.{Reason}
use Rattle.refusal.specs.declared.Reason.TheVariants.{BadList, NotPartners, NotMaximal}
use Rattle.cliques.specs.Graph.{Graph, Lawful}
use Rattle.cliques.specs.Sets.{In, Rising, every, smallest, places, partner_of_all, Pairwise, Clique, MaximalClique}
use Rattle.cliques.proofs.Tests.{of_true}
use Rattle.cliques.proofs.Laws.{partners_both, partners_within}
use Rattle.cliques.proofs.Members.{in_cons, in_here, in_single, places_in, every_at, partner_at, partner_all}
use Rattle.cliques.proofs.Rising.{rising_cons, rising_room}
use Rattle.pairs.specs.Checks.{first_fault}
use Rattle.pairs.proofs.Faults.{none_both, none_at}
use Rattle.completion.specs.Checks.{refuse_if, misplaced, place_fault, stranger, stranger_fault, can_grow, set_fault, maximal_fault}
use Rattle.completion.proofs.Lists.{has_yes}

let_pass : (test : Bool) (why : Reason) (i : ℕ) → refuse_if test why i ≡ None → test ≡ false
let_pass true why i h = let z : ◌≡◌ {A = ℕ} 0 1 = cc in absurd (omega arith)
let_pass false why i h = refl

nonempty : (X : List ℕ) → eqb (length X) 0 ≡ false → In (smallest X) X
nonempty [] q = absurd (eqb-false 0 0 q refl)
nonempty (x ∷ xs) q = in_here x xs

-- entries that rise from each to the next rise
rises : (X : List ℕ) → ((i : ℕ) → suc i < length X → get_or X i 0 < get_or X (suc i) 0) → Rising X × ((w : ℕ) → In w X → smallest X ≤ w)
rises [] f = (tt, λ w m. absurd m)
rises (x ∷ []) f = (tt, λ w m. let e = in_single w x m in omega arith)
rises (x ∷ y ∷ ys) f =
    let r = rises (y ∷ ys) (λ i h. f (suc i) (omega arith)) in
    let lt : x < y = f 0 (omega arith) in (
      rising_cons x (y ∷ ys) (λ w m. let a : y ≤ w = r.1 w m in omega arith) r.0,
      λ w m. elim (in_cons w x (y ∷ ys) m) [ inl z ↦ omega arith | inr z ↦ let a : y ≤ w = r.1 w z in omega arith ],
    )

-- a member stands at some index
index_of : (X : List ℕ) (w : ℕ) → In w X → (i : ℕ) × (i < length X) × (get_or X i 0 ≡ w)
index_of [] w m = absurd m
index_of (x ∷ xs) w m =
    elim (in_cons w x xs m) [
      | inl z ↦ (0, omega arith, sym z)
      | inr z ↦ let r = index_of xs w z in let lt = r.1 in (suc r.0, omega arith, r.2)
    ]

in_take : (X : List ℕ) (i j : ℕ) → j < i → i ≤ length X → In (get_or X j 0) (take i X)
in_take X i j h k =
    let l = length-take-le i X k in
    of_true _ (has_yes (get_or X j 0) (take i X) j (omega arith) (sym (get_or-take i X j 0 h)))

module _ (g : Graph) (law : Lawful g) (X : List ℕ) where
  module _ (none : set_fault g X ≡ None) where
    rest : (refuse_if (eqb (length X) 0) BadList 0 ≡ None) × (option_or (first_fault (place_fault g.size X) (length X)) (first_fault (stranger_fault g X) (length X)) ≡ None)
    rest = none_both (refuse_if (eqb (length X) 0) BadList 0) (option_or (first_fault (place_fault g.size X) (length X)) (first_fault (stranger_fault g X) (length X))) none

    faults : (first_fault (place_fault g.size X) (length X) ≡ None) × (first_fault (stranger_fault g X) (length X) ≡ None)
    faults = none_both (first_fault (place_fault g.size X) (length X)) (first_fault (stranger_fault g X) (length X)) rest.1

    placed : (i : ℕ) → i < length X → (leb g.size (get_or X i 0) ≡ false) × ((ltb 0 i && leb (get_or X i 0) (get_or X (i - 1) 0)) ≡ false)
    placed i h =
        or_parts (leb g.size (get_or X i 0)) (ltb 0 i && leb (get_or X i 0) (get_or X (i - 1) 0))
        (let_pass (misplaced g.size X i) BadList i (none_at (place_fault g.size X) (length X) i faults.0 h))

    above : (i : ℕ) → suc i < length X → get_or X i 0 < get_or X (suc i) 0
    above i h =
        elim (and_cases (ltb 0 (suc i)) (leb (get_or X (suc i) 0) (get_or X (suc i - 1) 0)) (placed (suc i) h).1) [
          | inl z ↦ absurd (omega (arith, ltb-false 0 (suc i) z))
          | inr z ↦ let e : suc i - 1 ≡ i = omega arith in subst (λ (j : ℕ). get_or X j 0 < get_or X (suc i) 0) e (leb-false _ _ z)
        ]

    within : (w : ℕ) → In w X → w < g.size
    within w m = let r = index_of X w m in subst (λ (x : ℕ). x < g.size) r.2 (leb-false _ _ (placed r.0 r.1).0)

    partnered : (i j : ℕ) → j < i → i < length X → T (g.partners (get_or X i 0) (get_or X j 0))
    partnered i j h k =
        partner_at g (get_or X i 0) (take i X) (get_or X j 0)
        (of_true _ (not-false (partner_of_all g (get_or X i 0) (take i X)) (let_pass (stranger g X i) NotPartners i (none_at (stranger_fault g X) (length X) i faults.1 k))))
        (in_take X i j h (omega arith))

    pairwise : Pairwise g X
    pairwise u v um vm d =
        let a = index_of X u um in
        let b = index_of X v vm in
        let move : T (g.partners (get_or X a.0 0) (get_or X b.0 0)) → T (g.partners u v) =
        λ t. subst (λ (z : ℕ). T (g.partners z v)) a.2 (subst (λ (z : ℕ). T (g.partners (get_or X a.0 0) z)) b.2 t) in
        elim (cases_order a.0 b.0) [
          | inl z ↦ absurd (d (sym a.2 ∙ (ap (λ (i : ℕ). get_or X i 0) z ∙ b.2)))
          | inr y ↦ elim y [
            | inl z ↦ move (partners_both g law _ _ (partnered b.0 a.0 z b.1))
            | inr z ↦ move (partnered a.0 b.0 z a.1)
          ]
        ]

    -- a list that passes the first two checks is a clique
    pub clique_of : Clique g X
    clique_of = record {
      sorted = (rises X above).0;
      nonempty = nonempty X (let_pass (eqb (length X) 0) BadList 0 rest.0);
      within = within;
      pairwise = pairwise;
    }

  module _ (none : maximal_fault g X ≡ None) where
    parts : (set_fault g X ≡ None) × (refuse_if (can_grow g X) NotMaximal 0 ≡ None)
    parts = none_both (set_fault g X) (refuse_if (can_grow g X) NotMaximal 0) none

    clique : Clique g X
    clique = clique_of parts.0

    -- a list that passes all three is a maximal clique
    pub maximal_of : MaximalClique g X
    maximal_of = record {
      clique = clique;
      maximal = λ w out all.
          T_not (partner_of_all g w X)
          (every_at (λ w. not (partner_of_all g w X)) (places g.size) w
          (of_true _ (not-false (every (λ w. not (partner_of_all g w X)) (places g.size)) (let_pass (can_grow g X) NotMaximal 0 parts.1)))
          (places_in g.size w (partners_within g law w (smallest X) (all (smallest X) clique.nonempty))))
          (partner_all g w X all);
    }

    pub few : length X ≤ 256
    few =
        let h = rising_room X 0 g.size clique.sorted (λ w m. omega arith) clique.within in
        let l = law.few in
        omega arith
