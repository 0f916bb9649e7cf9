-- One place taken from the line.
use Rattle.std.proofs.Common.{◌≡◌, ℕ, suc, ◌+◌, ◌-◌, ◌<◌, ◌≤◌, Bool, true, false, cond, ◌&&◌, ltb, List, [], ◌∷◌, length, take, drop, set, is_ok, Some, None, Ok, Option, Result, sym, refl, ap, ◌∙◌, subst, inl, inr, arith}
use Rattle.std.proofs.lemmas.List.{length-take, length-set, set-set}
use Rattle.std.proofs.lemmas.Bool.{both_ways, lt-ltb}
use Rattle.std.specs.Option.{ok_or}
use Rattle.std.specs.Result.{result_ok}
use Rattle.refusal.specs.declared.Refusal.{Refusal}
use Rattle.sorted.specs.Keyed.{first_of, without, inserted, tie, leading, insert_answer, Rising}
use Rattle.order.specs.declared.tallies.Tally.{Tally}
use Rattle.order.specs.declared.waiting.Waiting.{Waiting}
use Rattle.cliques.specs.Sets.{places}
use Rattle.order.specs.Orders.{bit, how_many, times, precedes, pick, minus}
use Rattle.order.specs.Lines.{upto, tally_at, count_at, waits_at, key_of, Among, Lined, Tallied, Lowered, left, next_of, after_next}
use Rattle.order.proofs.Counts.{in_places, times_places, many_minus}
use Rattle.order.proofs.Picks.{pre_refl, pick_only, bit_small}
use Rattle.order.proofs.Kept.{filter_in, filter_out, filter_same, filter_minus, none_in}
use Rattle.order.proofs.Lining.{tie_refl, length_without, before_at, tally_same, tally_other, waits_wide, its_key, length_inserted, lined_dropped, lined_added, fresh}

pub held_room : {X : Type 0} (xs : List X) (c : ℕ) → length (take c xs) ≤ length xs
held_room xs c = omega (arith, length-take c xs)

-- an insertion of a place that does not wait does its work
inserts : (R : List Tally) (W : List Waiting) → Lined R W → (v c m : ℕ) → v < 256 → waits_at R v ≡ false → length W < m
    → (x : Waiting) → x ≡ record { tally = c; place = v }
    → (r : Result (Unit {0}) Refusal) → r ≡ insert_answer (first_of (λ y. tie upto y x) W) (ltb (length W) m)
    → (W' : List Waiting) → W' ≡ cond (is_ok r) (inserted upto (λ w. w) x W) W
    → W' ≡ inserted upto (λ w. w) (record { tally = c; place = v }) W
inserts R W s v c m lt h room x qx r q W' q' =
    let k : Waiting = record { tally = c; place = v } in
    let f : first_of (λ y. tie upto y x) W ≡ None = ap (λ z. first_of (λ y. tie upto y z) W) qx ∙ fresh R W s v c h in
    let g : insert_answer (first_of (λ y. tie upto y x) W) (ltb (length W) m) ≡ Ok tt = ap (λ o. insert_answer o (ltb (length W) m)) f ∙ ap (λ b. insert_answer {X = Waiting} None b) (lt-ltb (length W) m room) in
    q' ∙ ap (λ o. cond (is_ok o) (inserted upto (λ w. w) x W) W) (q ∙ g) ∙ ap (λ z. inserted upto (λ w. w) z W) qx

-- the line and the tallies then
pub begun : (R R' : List Tally) (W : List Waiting) → Lined R W → (v c m : ℕ) → v < 256 → waits_at R v ≡ false → length W < m
    → R' ≡ set R v (record { partners = c; waits = true }) → (x : Waiting) → x ≡ key_of R' v
    → (r : Result (Unit {0}) Refusal) → r ≡ insert_answer (first_of (λ y. tie upto y x) W) (ltb (length W) m)
    → (W' : List Waiting) → W' ≡ cond (is_ok r) (inserted upto (λ w. w) x W) W
    → Lined R' W' × (length W' ≡ length W + 1)
begun R R' W s v c m lt h room q x qx r qr W' qw =
    let t : Tally = record { partners = c; waits = true } in
    let k : Waiting = record { tally = c; place = v } in
    let mk : ℕ → Waiting = λ n. record { tally = n; place = v } in
    let x' : x ≡ k = qx ∙ ap (λ (z : List Tally). key_of z v) q ∙ ap (λ z. mk z.partners) (tally_same R v t (omega (arith, s.wide))) in
    let w = inserts R W s v c m lt h room x x' r qr W' qw in (
      subst (λ (z : List Tally). Lined z W') (sym q) (subst (λ (l : List Waiting). Lined (set R v t) l) (sym w) (lined_added R W s v c lt h)),
      omega (arith, ap length w, length_inserted k W),
    )

-- a place that waits is lowered
pub lowers : (R : List Tally) (W : List Waiting) → Lined R W → (v m : ℕ) → waits_at R v ≡ true → length W ≤ m
    → (k : Waiting) → k ≡ key_of R v → (W1 : List Waiting) → W1 ≡ without (λ y. tie upto y k) W
    → (R' : List Tally) → R' ≡ set R v (record { partners = count_at R v - 1; waits = waits_at R v })
    → (x : Waiting) → x ≡ key_of R' v
    → (r : Result (Unit {0}) Refusal) → r ≡ insert_answer (first_of (λ y. tie upto y x) W1) (ltb (length W1) m)
    → (W2 : List Waiting) → W2 ≡ cond (is_ok r) (inserted upto (λ w. w) x W1) W1
    → Lined R' W2 × (R' ≡ set R v (record { partners = count_at R v - 1; waits = true }))
lowers R W s v m h room k qk W1 q1 R' qr x qx r q W2 q2 =
    let c = count_at R v - 1 in
    let on : Tally = record { partners = c; waits = true } in
    let off : Tally = record { partners = c; waits = false } in
    let mt : Bool → Tally = λ b. record { partners = c; waits = b } in
    let mk : ℕ → Waiting = λ n. record { tally = n; place = v } in
    let vl = waits_wide R v h in
    let R1 : List Tally = set R v off in
    let vl1 : v < length R1 = omega (arith, length-set R v off) in
    let f : W1 ≡ without (λ y. tie upto y (key_of R v)) W = q1 ∙ ap (λ z. without (λ y. tie upto y z) W) qk in
    let s1 : Lined R1 W1 = subst (λ (w : List Waiting). Lined R1 w) (sym f) (lined_dropped R W s v c h) in
    let qon : R' ≡ set R v on = qr ∙ ap (λ b. set R v (mt b)) h in
    let qx' : x ≡ record { tally = c; place = v } = qx ∙ ap (λ (z : List Tally). key_of z v) qon ∙ ap (λ t. mk t.partners) (tally_same R v on vl) in
    let idle : waits_at R1 v ≡ false = ap (λ t. t.waits) (tally_same R v off vl) in
    let v256 : v < 256 = omega (arith, s.wide) in
    let ln : length W ≡ suc (length W1) = length_without (λ y. tie upto y (key_of R v)) W (key_of R v) (s.all v h) (tie_refl (key_of R v) (key_of R v) refl) ∙ ap suc (ap length (sym f)) in
    let w2 = inserts R1 W1 s1 v c m v256 idle (omega arith) x qx' r q W2 q2 in
    let a = lined_added R1 W1 s1 v c v256 idle in
    let e : set R1 v on ≡ R' = set-set R v off on ∙ sym qon in
    (subst (λ (w : List Waiting). Lined R' w) (sym w2) (subst (λ (z : List Tally). Lined z (inserted upto (λ w. w) (record { tally = c; place = v }) W1)) e a), qon)

-- the first of the line
pub lead : (W : List Waiting) (x : Waiting) → leading W ≡ Some x → W ≡ x ∷ drop 1 W
lead [] x h = let z : ◌≡◌ {A = ℕ} 0 1 = cc in absurd (omega arith)
lead (y ∷ ys) x h = let q : y ≡ x = cc in ap (λ z. z ∷ ys) q

pub lead_none : (W : List Waiting) → leading W ≡ None → W ≡ []
lead_none [] h = refl
lead_none (y ∷ ys) h = let z : ◌≡◌ {A = ℕ} 0 1 = cc in absurd (omega arith)

told_back : {X E : Type 0} (o : Option X) (e : E) → result_ok (ok_or o e) ≡ o
told_back None e = refl
told_back (Some x) e = refl

-- what the first of the line is, from what taking it answers
pub lead_told : {X E : Type 0} (o : Option X) (e : E) (r : Result X E) (q s : Option X) → r ≡ ok_or o e → q ≡ result_ok r → q ≡ s → o ≡ s
lead_told o e r q s a b h = sym (told_back o e) ∙ sym (ap result_ok a) ∙ sym b ∙ h

pub no_left : (n : ℕ) (R : List Tally) (W : List Waiting) → Lined R W → leading W ≡ None → left n R ≡ []
no_left n R W s h = none_in (left n R) (λ w m. subst (λ (l : List Waiting). Among (key_of R w) l) (lead_none W h) (s.all w (filter_out (waits_at R) (places n) w m)))

module _ (R : List Tally) (W : List Waiting) (s : Lined R W) (x : Waiting) (h : leading W ≡ Some x) where
  pub lead_in : Among x W
  lead_in = subst (λ (l : List Waiting). Among x l) (sym (lead W x h)) (inl refl)

  pub lead_waits : waits_at R x.place ≡ true
  lead_waits = (s.only x lead_in).0

  pub popped : Lined (set R x.place (record { partners = count_at R x.place; waits = false })) (drop 1 W)
  popped =
      let v = x.place in
      let p : Waiting → Bool = λ y. tie upto y (key_of R v) in
      let t : p x ≡ true = tie_refl x (key_of R v) (its_key R W s x lead_in) in
      let e : without p W ≡ drop 1 W = ap (without p) (lead W x h) ∙ ap (λ b. cond b (drop 1 W) (x ∷ without p (drop 1 W))) t in
      subst (λ (l : List Waiting). Lined (set R v (record { partners = count_at R v; waits = false })) l) e (lined_dropped R W s v (count_at R v) lead_waits)

  -- it comes before every place that waits
  pub lead_first : (w : ℕ) → waits_at R w ≡ true → precedes (count_at R x.place) x.place (count_at R w) w ≡ true
  lead_first w hw =
      let m : Among (key_of R w) (x ∷ drop 1 W) = subst (λ (l : List Waiting). Among (key_of R w) l) (lead W x h) (s.all w hw) in
      let ris = subst (λ (l : List Waiting). Rising upto (λ w. w) l) (lead W x h) s.rising in
      let k : upto x (key_of R w) ≡ true = elim m [
        | inl q ↦ subst (λ z. upto x z ≡ true) (sym q) (pre_refl x.tally x.place)
        | inr r ↦ (before_at x (drop 1 W) (key_of R w) ris.0 r).0
      ] in
      subst (λ c. precedes c x.place (count_at R w) w ≡ true) (s.only x lead_in).1 k

pub next_is : (e : ℕ → ℕ → Bool) (S : List ℕ) (v : ℕ) → 0 < times v S → ((w : ℕ) → 0 < times w S → precedes (how_many (e v) S) v (how_many (e w) S) w ≡ true)
    → (next_of e S ≡ Some (record { tally = how_many (e v) S; place = v })) × (after_next e S ≡ minus v S)
next_is e [] v m h = absurd (omega arith)
next_is e (x ∷ xs) v m h =
    let q : pick (λ u. how_many (e u) (x ∷ xs)) x xs ≡ v = pick_only (λ u. how_many (e u) (x ∷ xs)) x xs v m h in
    let mk : ℕ → Waiting = λ u. record { tally = how_many (e u) (x ∷ xs); place = u } in
    (ap (λ u. Some (mk u)) q, ap (λ u. minus u (x ∷ xs)) q)

module _ (n : ℕ) (e : ℕ → ℕ → Bool) (both : (u v : ℕ) → e u v ≡ e v u) (R : List Tally) (W : List Waiting) (s : Tallied n e R W)
    (x : Waiting) (h : leading W ≡ Some x) where
  v_waits : waits_at R x.place ≡ true
  v_waits = lead_waits R W s.lined x h

  v_in : 0 < times x.place (left n R)
  v_in = filter_in (waits_at R) (places n) x.place (in_places n x.place (s.within x.place v_waits)) v_waits

  pub took : (Some x ≡ next_of e (left n R)) × (after_next e (left n R) ≡ minus x.place (left n R))
  took =
      let v = x.place in
      let S = left n R in
      let mk : ℕ → Waiting = λ c. record { tally = c; place = v } in
      let cv = s.counted v v_waits in
      let i = next_is e S v v_in (λ w m.
      let hw = filter_out (waits_at R) (places n) w m in
      subst (λ a. precedes a v (how_many (e w) S) w ≡ true) cv (subst (λ b. precedes (count_at R v) v b w ≡ true) (s.counted w hw) (lead_first R W s.lined x h w hw))) in
      (ap (λ c. Some (mk c)) ((s.lined.only x (lead_in R W s.lined x h)).1 ∙ cv) ∙ sym i.0, i.1)

  module _ (R1 : List Tally) (q1 : R1 ≡ set R x.place (record { partners = count_at R x.place; waits = false })) (R2 : List Tally) (lw : Lowered n (e x.place) R1 R2) where
    off_here : waits_at R1 x.place ≡ false
    off_here = ap (λ (z : List Tally). waits_at z x.place) q1 ∙ ap (λ t. t.waits) (tally_same R x.place _ (waits_wide R x.place v_waits))

    off_there : (u : ℕ) → (u ≡ x.place → ⊥) → tally_at R1 u ≡ tally_at R u
    off_there u r = ap (λ (z : List Tally). tally_at z u) q1 ∙ tally_other R x.place _ u r

    pub left_then : left n R2 ≡ minus x.place (left n R)
    left_then =
        filter_same (waits_at R1) (waits_at R2) (places n) (λ w _. lw.waits w)
        ∙ filter_minus (waits_at R) (waits_at R1) x.place v_waits off_here (λ w r. ap (λ t. t.waits) (off_there w r)) (places n) (omega (arith, times_places n x.place, bit_small (ltb x.place n)))

    still : (u : ℕ) → waits_at R2 u ≡ true → (u ≡ x.place → ⊥) × (waits_at R u ≡ true)
    still u hu =
        let h1 : waits_at R1 u ≡ true = sym (lw.waits u) ∙ hu in
        let ne : u ≡ x.place → ⊥ = λ r. both_ways (waits_at R1 u) (ap (waits_at R1) r ∙ off_here) h1 in
        (ne, sym (ap (λ t. t.waits) (off_there u ne)) ∙ h1)

    pub tallied_then : (W2 : List Waiting) → Lined R2 W2 → Tallied n e R2 W2
    tallied_then W2 s2 = record {
      lined = s2;
      within = λ u hu. s.within u (still u hu).1;
      counted = λ u hu.
          let v = x.place in
          let st = still u hu in
          let c1 = ap (λ t. t.partners) (off_there u st.0) in
          let h1 : waits_at R1 u ≡ true = sym (lw.waits u) ∙ hu in
          let b : bit (e v u && waits_at R1 u) ≡ bit (e u v) = ap (λ z. bit (e v u && z)) h1 ∙ and_true (e v u) ∙ ap bit (both v u) in
          let c2 = lw.below u (s.within u st.1) in
          let c0 = s.counted u st.1 in
          let m = many_minus (e u) v (left n R) v_in in
          let l = ap (how_many (e u)) left_then in
          omega arith;
    }
      where
        and_true : (b : Bool) → bit (b && true) ≡ bit b
        and_true true = refl
        and_true false = refl
