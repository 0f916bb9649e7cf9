-- What a rotation of a part by one place leaves: an insertion, or a removal.
use Rattle.std.proofs.Common.{◌≡◌, ℕ, ◌+◌, ◌-◌, ◌<◌, ◌≤◌, List, [], ◌∷◌, ◌++◌, length, take, drop, set, sym, refl, ap, ◌∙◌, subst, add-one, arith}
use borrow.Rule.Slice.PartMut.{put_mid}
use Rattle.std.specs.List.{insert as opened, remove}
use Rattle.std.proofs.lemmas.List.{length-set, append_assoc, drop-set-add, take_more_set, length-drop, length_push, take_at, drop_at, take-take, take-set-le, length-take-le, length-append, drop-drop}
use Rattle.std.proofs.lemmas.Slice.{take-put_mid, between_is}

module _ {X : Type 0} where
  mid_set : (xs : List X) (i n : ℕ) (x : X) → i ≤ n → n < length xs → take (n + 1 - i) (drop i (set xs n x)) ≡ take (n - i) (drop i xs) ++ (x ∷ [])
  mid_set xs i n x le lt =
      let e : i + (n - i) ≡ n = omega arith in
      let f : n + 1 - i ≡ n - i + 1 = omega arith in
      let d : drop i (set xs n x) ≡ set (drop i xs) (n - i) x = subst (λ (m : ℕ). drop i (set xs m x) ≡ set (drop i xs) (n - i) x) e (drop-set-add i xs (n - i) x) in
      let b : n - i < length (drop i xs) = simp length-drop (omega arith) in
      rw (f, d) (take_more_set (drop i xs) (n - i) x b)

  turned_right : (bs : List X) (x : X) (mid : List X) → mid ≡ bs ++ (x ∷ []) → drop (length mid - 1) mid ++ take (length mid - 1) mid ≡ x ∷ bs
  turned_right bs x mid e =
      let l : length mid - 1 ≡ length bs = omega (arith, ap length e, length_push bs x) in
      rw (l, e, drop_at bs (x ∷ []) (length bs) refl, take_at bs (x ∷ []) (length bs) refl)

  pub insert_turned : (xs : List X) (i n : ℕ) (x : X) (ys : List X) → i ≤ n → n < length xs → (mid : List X) → mid ≡ take (n + 1 - i) (drop i (set xs n x)) → ys ≡ drop (length mid - 1) mid ++ take (length mid - 1) mid → take (n + 1) (put_mid i (n + 1 - i) (set xs n x) ys) ≡ opened (take n xs) i x
  insert_turned xs i n x ys le lt mid em ey =
      let bs : List X = take (n - i) (drop i xs) in
      let la : length bs ≡ n - i = length-take-le (n - i) (drop i xs) (simp length-drop (omega arith)) in
      let y : ys ≡ x ∷ bs = ey ∙ turned_right bs x mid (em ∙ mid_set xs i n x le lt) in
      let ly : n + 1 ≡ i + length ys = omega (arith, ap length y) in
      let lx : i ≤ length (set xs n x) = simp length-set (omega arith) in
      let a : take (n + 1) (put_mid i (n + 1 - i) (set xs n x) ys) ≡ take i (set xs n x) ++ ys = take-put_mid i (n + 1 - i) (set xs n x) ys (n + 1) ly lx in
      let b : take i (set xs n x) ≡ take i xs = take-set-le i xs n x le in
      let t : take i (take n xs) ≡ take i xs = take-take i n xs le in
      let w : bs ≡ drop i (take n xs) = between_is xs i n in
      rw (a, b, y, t, ← w)

  pub remove_turned : (xs : List X) (i n : ℕ) (ys : List X) → i < n → n ≤ length xs → (mid : List X) → mid ≡ take (n - i) (drop i xs) → ys ≡ drop 1 mid ++ take 1 mid → take (n - 1) (put_mid i (n - i) xs ys) ≡ remove (take n xs) i
  remove_turned xs i n ys lt le mid em ey =
      let z : List X = put_mid i (n - i) xs ys in
      let m : mid ≡ drop i (take n xs) = em ∙ between_is xs i n in
      let r : drop 1 mid ≡ drop (i + 1) (take n xs) = ap (λ (l : List X). drop 1 l) m ∙ drop-drop 1 i (take n xs) in
      let y : ys ≡ drop (i + 1) (take n xs) ++ take 1 mid = rw (← r) ey in
      let ln : length (take n xs) ≡ n = length-take-le n xs le in
      let lm : length mid ≡ n - i = ap length m ∙ length-drop i (take n xs) ∙ ap (λ (k : ℕ). k - i) ln in
      let l1 : length (take 1 mid) ≡ 1 = length-take-le 1 mid (omega arith) in
      let lr : length (drop (i + 1) (take n xs)) ≡ n - (i + 1) = length-drop (i + 1) (take n xs) ∙ ap (λ (k : ℕ). k - (i + 1)) ln in
      let ly : n ≡ i + length ys = omega (arith, ap length y, length-append (drop (i + 1) (take n xs)) (take 1 mid)) in
      let a : take n z ≡ take i xs ++ ys = take-put_mid i (n - i) xs ys n ly (omega arith) in
      let b : take n z ≡ (take i xs ++ drop (i + 1) (take n xs)) ++ take 1 mid = a ∙ ap (λ (l : List X). take i xs ++ l) y ∙ sym (append_assoc (take i xs) (drop (i + 1) (take n xs)) (take 1 mid)) in
      let lf : length (take i xs ++ drop (i + 1) (take n xs)) ≡ n - 1 = omega (arith, length-append (take i xs) (drop (i + 1) (take n xs)), length-take-le i xs (omega arith)) in
      let c : take (n - 1) z ≡ take i xs ++ drop (i + 1) (take n xs) =
      sym (take-take (n - 1) n z (omega arith)) ∙ ap (λ (l : List X). take (n - 1) l) b ∙ take_at (take i xs ++ drop (i + 1) (take n xs)) (take 1 mid) (n - 1) lf in
      let t : take i (take n xs) ≡ take i xs = take-take i n xs (omega arith) in
      rw (c, t, add-one)
