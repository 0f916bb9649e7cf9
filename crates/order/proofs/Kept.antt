-- The places that pass a test.
use Rattle.std.proofs.Common.{◌≡◌, ℕ, ◌<◌, ◌≤◌, Bool, true, false, cond, List, [], ◌∷◌, sym, refl, ap, ◌∙◌, inl, inr, arith}
use Rattle.std.proofs.lemmas.Bool.{cases_eq, eq-eqb, ne_eqb, both_ways}
use Rattle.order.specs.Orders.{times, minus}
use Rattle.cliques.specs.Sets.{filter}
use Rattle.order.proofs.Counts.{in_cons, in_here, in_there}

pub filter_out : (p : ℕ → Bool) (L : List ℕ) (w : ℕ) → 0 < times w (filter p L) → p w ≡ true
filter_out p [] w m = absurd (omega arith)
filter_out p (x ∷ xs) w m = go (p x) refl m (filter_out p xs w)
  where
    go : (b : Bool) → p x ≡ b → 0 < times w (cond b (x ∷ filter p xs) (filter p xs)) → (0 < times w (filter p xs) → p w ≡ true) → p w ≡ true
    go true q m i = elim (in_cons w x (filter p xs) m) [ inl r ↦ ap p r ∙ q | inr r ↦ i r ]
    go false q m i = i m

pub filter_in : (p : ℕ → Bool) (L : List ℕ) (w : ℕ) → 0 < times w L → p w ≡ true → 0 < times w (filter p L)
filter_in p [] w m t = m
filter_in p (x ∷ xs) w m t = go (p x) refl (filter_in p xs w)
  where
    go : (b : Bool) → p x ≡ b → (0 < times w xs → p w ≡ true → 0 < times w (filter p xs)) → 0 < times w (cond b (x ∷ filter p xs) (filter p xs))
    go true q i = elim (in_cons w x xs m) [ inl r ↦ in_here w x (filter p xs) r | inr r ↦ in_there w x (filter p xs) (i r t) ]
    go false q i = elim (in_cons w x xs m) [ inl r ↦ absurd (both_ways (p x) q (sym (ap p r) ∙ t)) | inr r ↦ i r t ]

pub filter_same : (p q : ℕ → Bool) (L : List ℕ) → ((w : ℕ) → 0 < times w L → q w ≡ p w) → filter q L ≡ filter p L
filter_same p q [] h = refl
filter_same p q (x ∷ xs) h =
    let a : q x ≡ p x = h x (in_here x x xs refl) in
    let i = filter_same p q xs (λ w m. h w (in_there w x xs m)) in
    ap (λ b. cond b (x ∷ filter q xs) (filter q xs)) a ∙ ap (λ (l : List ℕ). cond (p x) (x ∷ l) l) i

pub filter_all : (p : ℕ → Bool) (L : List ℕ) → ((w : ℕ) → 0 < times w L → p w ≡ true) → filter p L ≡ L
filter_all p [] h = refl
filter_all p (x ∷ xs) h =
    let i = filter_all p xs (λ w m. h w (in_there w x xs m)) in
    ap (λ b. cond b (x ∷ filter p xs) (filter p xs)) (h x (in_here x x xs refl)) ∙ ap (λ (l : List ℕ). x ∷ l) i

-- one place less
pub filter_minus : (p q : ℕ → Bool) (v : ℕ) → p v ≡ true → q v ≡ false → ((w : ℕ) → (w ≡ v → ⊥) → q w ≡ p w)
    → (L : List ℕ) → times v L ≤ 1 → filter q L ≡ minus v (filter p L)
filter_minus p q v pv qv h [] d = refl
filter_minus p q v pv qv h (x ∷ xs) d =
    elim (cases_eq v x) [
      | inl r ↦ here r
      | inr r ↦ there r (p x) (h x (λ z. r (sym z))) (filter_minus p q v pv qv h xs (omega arith))
    ]
  where
    here : v ≡ x → filter q (x ∷ xs) ≡ minus v (filter p (x ∷ xs))
    here r =
        let k = in_here v x [] r in
        let s : filter q xs ≡ filter p xs = filter_same p q xs (λ w m. h w (λ z. let y : times w xs ≡ times v xs = ap (λ t. times t xs) z in omega arith)) in
        let a : filter q (x ∷ xs) ≡ filter q xs = ap (λ b. cond b (x ∷ filter q xs) (filter q xs)) (ap q (sym r) ∙ qv) in
        let b : minus v (filter p (x ∷ xs)) ≡ minus v (x ∷ filter p xs) = ap (λ c. minus v (cond c (x ∷ filter p xs) (filter p xs))) (ap p (sym r) ∙ pv) in
        let c : minus v (x ∷ filter p xs) ≡ filter p xs = ap (λ t. cond t (filter p xs) (x ∷ minus v (filter p xs))) (eq-eqb v x r) in
        a ∙ s ∙ sym (b ∙ c)

    there : (v ≡ x → ⊥) → (b : Bool) → q x ≡ b → filter q xs ≡ minus v (filter p xs) → cond (q x) (x ∷ filter q xs) (filter q xs) ≡ minus v (cond b (x ∷ filter p xs) (filter p xs))
    there r true a i =
        let c : minus v (x ∷ filter p xs) ≡ x ∷ minus v (filter p xs) = ap (λ t. cond t (filter p xs) (x ∷ minus v (filter p xs))) (ne_eqb v x r) in
        ap (λ b. cond b (x ∷ filter q xs) (filter q xs)) a ∙ ap (λ (l : List ℕ). x ∷ l) i ∙ sym c
    there r false a i = ap (λ b. cond b (x ∷ filter q xs) (filter q xs)) a ∙ i

pub none_in : (S : List ℕ) → ((w : ℕ) → 0 < times w S → ⊥) → S ≡ []
none_in [] h = refl
none_in (x ∷ xs) h = absurd (h x (in_here x x xs refl))
