-- Boolean tests as facts.
use Rattle.std.proofs.Common.{◌≡◌, ℕ, ◌<◌, ◌≤◌, Bool, true, false, ◌&&◌, ◌||◌, T, eqb, ltb, ◌⊎◌, Some, None, Option, sym, refl, ◌∙◌, subst, inl, inr, ltb→lt, nltb→le}
use lib.Dec.{eqb_refl, not_T}
use Rattle.cliques.specs.Sets.{FirstFrom}

pub or_split : (a b : Bool) → T (a || b) → T a ⊎ T b
or_split true b t = inl tt
or_split false b t = inr t

pub or_l : (a b : Bool) → T a → T (a || b)
or_l true b t = tt
or_l false b t = absurd t

pub or_r : (a b : Bool) → T b → T (a || b)
or_r true b t = tt
or_r false b t = t

pub and_l : (a b : Bool) → T (a && b) → T a
and_l true b t = tt
and_l false b t = t

pub and_r : (a b : Bool) → T (a && b) → T b
and_r true b t = t
and_r false b t = absurd t

pub and_mk : (a b : Bool) → T a → T b → T (a && b)
and_mk true b s t = t
and_mk false b s t = s

pub dec : (b : Bool) → T b ⊎ (T b → ⊥)
dec true = inl tt
dec false = inr (λ t. t)

pub lt_or : (a b : ℕ) → (a < b) ⊎ (b ≤ a)
lt_or a b = elim (dec (ltb a b)) [ inl t ↦ inl (ltb→lt a b t) | inr t ↦ inr (nltb→le a b (not_T (ltb a b) t)) ]

-- tests that pass together are equal
pub both_same : (a b : Bool) → (T a → T b) → (T b → T a) → a ≡ b
both_same true true f j = refl
both_same true false f j = absurd (f tt)
both_same false true f j = absurd (j tt)
both_same false false f j = refl

-- a test as an equation
pub is_true : (b : Bool) → T b → b ≡ true
is_true b t = both_same b true (λ _. tt) (λ _. t)

pub is_false : (b : Bool) → (T b → ⊥) → b ≡ false
is_false b f = both_same b false f (λ t. absurd t)

pub of_true : (b : Bool) → b ≡ true → T b
of_true b q = subst T (sym q) tt

pub of_false : (b : Bool) → b ≡ false → T b → ⊥
of_false b q t = subst T q t

pub eqb_of : (m n : ℕ) → m ≡ n → T (eqb m n)
eqb_of m n q = subst (λ z. T (eqb m z)) q (eqb_refl m)

-- the first place that passes a test, and of tests that agree
pub first_least : (p : ℕ → Bool) (n w v : ℕ) → FirstFrom p n w (Some v) → (u : ℕ) → w ≤ u → T (p u) → v ≤ u
first_least p n w v f u h t = elim (lt_or u v) [ inl l ↦ absurd (of_false (p u) (f.3 u h l) t) | inr l ↦ l ]

pub first_agree : (p q : ℕ → Bool) → ((u : ℕ) → p u ≡ q u) → (n w : ℕ) (r : Option ℕ) → FirstFrom p n w r → FirstFrom q n w r
first_agree p q e n w None f = λ u h l. sym (e u) ∙ f u h l
first_agree p q e n w (Some v) f = (f.0, f.1, sym (e v) ∙ f.2, λ u h l. sym (e u) ∙ f.3 u h l)
