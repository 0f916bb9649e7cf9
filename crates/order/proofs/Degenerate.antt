-- Moving the heads to the front changes no place's later partners; the theorem on the whole order.
use Rattle.std.proofs.Common.{◌≡◌, ℕ, ◌+◌, ◌<◌, ◌≤◌, Bool, true, false, cond, eqb, ltb, List, [], ◌∷◌, ◌++◌, length, sym, refl, ap, ◌∙◌, subst, inl, inr, arith}
use Rattle.std.proofs.lemmas.Bool.{eqb-true, cases_eq, cases_lt}
use Rattle.cliques.specs.Graph.{Graph, Lawful}
use Rattle.cliques.specs.Sets.{places}
use Rattle.order.specs.Orders.{bit, how_many, times, after, later, taken, head, heads, others, degeneracy_order, Degeneracy, most}
use Rattle.order.proofs.Counts.{in_cons, in_here, in_there, many_append, many_push, many_none, after_here, after_there, after_left, after_right, times_places, length_places, in_places, places_in}
use Rattle.order.proofs.Picks.{many_taken, stage, no_better, bit_small}

bit_zero : (b : Bool) → bit b ≡ 0 → b ≡ false
bit_zero true h = absurd (omega arith)
bit_zero false h = refl

module _ (e : ℕ → ℕ → Bool) where
  pub many_parts : (p : ℕ → Bool) (B L : List ℕ) → how_many p (heads e B L) + how_many p (others e B L) ≡ how_many p L
  many_parts p B [] = refl
  many_parts p B (x ∷ xs) = go (head e B x) (many_parts p (B ++ (x ∷ [])) xs)
    where
      go : (b : Bool) → how_many p (heads e (B ++ (x ∷ [])) xs) + how_many p (others e (B ++ (x ∷ [])) xs) ≡ how_many p xs
          → how_many p (cond b (x ∷ heads e (B ++ (x ∷ [])) xs) (heads e (B ++ (x ∷ [])) xs))
          + how_many p (cond b (others e (B ++ (x ∷ [])) xs) (x ∷ others e (B ++ (x ∷ [])) xs)) ≡ bit (p x) + how_many p xs
      go true i = omega arith
      go false i = omega arith

  pub heads_alone : (B L : List ℕ) (h : ℕ) → 0 < times h (heads e B L) → how_many (e h) B ≡ 0
  heads_alone B [] h m = absurd (omega arith)
  heads_alone B (x ∷ xs) h m = go (head e B x) refl m (heads_alone (B ++ (x ∷ [])) xs h)
    where
      go : (b : Bool) → head e B x ≡ b → 0 < times h (cond b (x ∷ heads e (B ++ (x ∷ [])) xs) (heads e (B ++ (x ∷ [])) xs))
          → (0 < times h (heads e (B ++ (x ∷ [])) xs) → how_many (e h) (B ++ (x ∷ [])) ≡ 0) → how_many (e h) B ≡ 0
      go true q m i =
          elim (in_cons h x (heads e (B ++ (x ∷ [])) xs) m) [
            | inl r ↦ subst (λ y. how_many (e y) B ≡ 0) (sym r) (eqb-true (how_many (e x) B) 0 q)
            | inr r ↦ (let z = i r in let k = many_push (e h) B x in omega arith)
          ]
      go false q m i = let z = i m in let k = many_push (e h) B x in omega arith

  module _ (both : (u v : ℕ) → e u v ≡ e v u) where
    -- a head of what follows x is no partner of x
    apart_heads : (B : List ℕ) (x : ℕ) (xs : List ℕ) (h : ℕ) → 0 < times h (heads e (B ++ (x ∷ [])) xs) → e x h ≡ false
    apart_heads B x xs h m =
        let z = heads_alone (B ++ (x ∷ [])) xs h m in
        let k = many_push (e h) B x in
        both x h ∙ bit_zero (e h x) (omega arith)

    pub later_front : (L : List ℕ) → ((w : ℕ) → times w L ≤ 1) → (B : List ℕ) (v : ℕ) → 0 < times v L
        → later e (heads e B L ++ others e B L) v ≡ later e L v
    later_front [] d B v m = absurd (omega arith)
    later_front (x ∷ xs) d B v m = go (head e B x) (later_front xs (λ w. omega (arith, d w)) (B ++ (x ∷ [])) v)
      where
        go : (b : Bool) → (0 < times v xs → later e (heads e (B ++ (x ∷ [])) xs ++ others e (B ++ (x ∷ [])) xs) v ≡ later e xs v)
            → later e (cond b (x ∷ heads e (B ++ (x ∷ [])) xs) (heads e (B ++ (x ∷ [])) xs) ++ cond b (others e (B ++ (x ∷ [])) xs) (x ∷ others e (B ++ (x ∷ [])) xs)) v
            ≡ later e (x ∷ xs) v
        go true i =
            let H = heads e (B ++ (x ∷ [])) xs in
            let O = others e (B ++ (x ∷ [])) xs in
            elim (in_cons v x xs m) [
              | inl q ↦ (let a = ap (how_many (e v)) (after_here v x (H ++ O) q) in
                  let b = ap (how_many (e v)) (after_here v x xs q) in
                  let c = many_parts (e v) (B ++ (x ∷ [])) xs in
                  let f = many_append (e v) H O in omega arith)
              | inr r ↦ elim (cases_eq v x) [
                | inl q ↦ (let k = in_here v x [] q in let l = d v in absurd (omega arith))
                | inr q ↦ ap (how_many (e v)) (after_there v x (H ++ O) q) ∙ i r ∙ sym (ap (how_many (e v)) (after_there v x xs q))
              ]
            ]
        go false i =
            let H = heads e (B ++ (x ∷ [])) xs in
            let O = others e (B ++ (x ∷ [])) xs in
            let t = many_parts (λ y. eqb v y) (B ++ (x ∷ [])) xs in
            elim (in_cons v x xs m) [
              | inl q ↦ (let k = in_here v x [] q in
                  let l = d v in
                  let z : times v H ≡ 0 = omega arith in
                  let a = ap (how_many (e v)) (after_right v H (x ∷ O) z ∙ after_here v x O q) in
                  let b = ap (how_many (e v)) (after_here v x xs q) in
                  let c = many_parts (e v) (B ++ (x ∷ [])) xs in
                  let n = many_none (e v) H (λ w mw. ap (λ y. e y w) q ∙ apart_heads B x xs w mw) in
                  omega arith)
              | inr r ↦ elim (cases_eq v x) [
                | inl q ↦ (let k = in_here v x [] q in let l = d v in absurd (omega arith))
                | inr q ↦ elim (cases_eq (times v H) 0) [
                  | inl z ↦ ap (how_many (e v)) (after_right v H (x ∷ O) z ∙ after_there v x O q ∙ sym (after_right v H O z)) ∙ i r ∙ sym (ap (how_many (e v)) (after_there v x xs q))
                  | inr z ↦ (let p : 0 < times v H = omega arith in
                      let a = ap (how_many (e v)) (after_left v H (x ∷ O) p) in
                      let a2 = many_append (e v) (after v H) (x ∷ O) in
                      let b = ap (how_many (e v)) (after_left v H O p) in
                      let b2 = many_append (e v) (after v H) O in
                      let c : bit (e v x) ≡ 0 = ap bit (both v x ∙ apart_heads B x xs v p) in
                      let f = i r in
                      let g = ap (how_many (e v)) (after_there v x xs q) in
                      omega arith)
                ]
              ]
            ]

  pub most_bound : (L : List ℕ) (v : ℕ) → 0 < times v L → later e L v ≤ most e L
  most_bound [] v m = absurd (omega arith)
  most_bound (x ∷ xs) v m =
      elim (cases_eq v x) [
        | inl q ↦ (let a = ap (how_many (e v)) (after_here v x xs q) in let b = ap (λ y. how_many (e y) xs) q in omega arith)
        | inr q ↦ (let a = ap (how_many (e v)) (after_there v x xs q) in
            let r : 0 < times v xs = elim (in_cons v x xs m) [ inl z ↦ absurd (q z) | inr z ↦ z ] in
            let b = most_bound xs v r in omega arith)
      ]

  pub most_reached : (L : List ℕ) → ((w : ℕ) → times w L ≤ 1) → 0 < length L → (v : ℕ) × (0 < times v L) × (later e L v ≡ most e L)
  most_reached [] d h = absurd (omega arith)
  most_reached (x ∷ []) d h = (x, in_here x x [] refl, ap (how_many (e x)) (after_here x x [] refl))
  most_reached (x ∷ (y ∷ ys)) d h =
      let i = most_reached (y ∷ ys) (λ w. omega (arith, d w)) (omega arith) in
      let ne : i.0 ≡ x → ⊥ = λ q. let k = in_here i.0 x [] q in let l = d i.0 in let m = i.1 in omega arith in
      elim (cases_lt (how_many (e x) (y ∷ ys)) (most e (y ∷ ys))) [
        | inl l ↦ (i.0, in_there i.0 x (y ∷ ys) i.1, (let a = ap (how_many (e i.0)) (after_there i.0 x (y ∷ ys) ne) in let b = i.2 in omega arith))
        | inr l ↦ (x, in_here x x (y ∷ ys) refl, (let a = ap (how_many (e x)) (after_here x x (y ∷ ys) refl) in omega arith))
      ]

-- the order is what it is called
pub degenerate : (g : Graph) → Lawful g → Degeneracy g (degeneracy_order g) (most g.partners (taken g.partners g.size (places g.size)))
degenerate g laws =
    let e = g.partners in
    let n = g.size in
    let S = places n in
    let L = taken e n S in
    let lp = length_places n in
    let tl : (w : ℕ) → times w L ≡ bit (ltb w n) = λ w. many_taken e (λ y. eqb w y) n S lp ∙ times_places n w in
    let dl : (w : ℕ) → times w L ≤ 1 = λ w. omega (arith, tl w, bit_small (ltb w n)) in
    let mem : (v : ℕ) → v < n → 0 < times v L = λ v l. omega (arith, tl v, times_places n v, in_places n v l) in
    let lf : (v : ℕ) → v < n → later e (degeneracy_order g) v ≡ later e L v = λ v l. later_front e laws.both L dl [] v (mem v l) in
    let re : 0 < n → (v : ℕ) × (0 < times v L) × (later e L v ≡ most e L) = λ p. most_reached e L dl (grown L (mem 0 p)) in
    record {
      permutation = λ w. many_append (λ y. eqb w y) (heads e [] L) (others e [] L) ∙ many_parts e (λ y. eqb w y) [] L ∙ tl w;
      bound = λ v l. subst (λ m. m ≤ most e L) (sym (lf v l)) (most_bound e L v (mem v l));
      reached = λ p. let r = re p in let l : r.0 < n = places_in n r.0 (times r.0 L) (tl r.0) r.1 in (r.0, l, lf r.0 l ∙ r.2);
      none = λ q. subst (λ m. most e (taken e m (places m)) ≡ 0) (sym q) refl;
      least = λ p P hp.
          let r = re p in
          let m : 0 < times r.0 S = omega (arith, r.1, tl r.0, times_places n r.0) in
          let b = no_better e laws.apart n S L (times_places n) r.0 (stage e laws.apart n S lp r.0 m) P hp in
          (b.0, b.1, subst (λ d. d ≤ later e P b.0) r.2 b.2);
    }
  where
    grown : (L : List ℕ) → 0 < times 0 L → 0 < length L
    grown [] m = absurd (omega arith)
    grown (x ∷ xs) m = omega arith
