-- A set that is kept: its members again, one member more, and the entries of a list that pass a test.
use Rattle.std.proofs.Common.{◌≡◌, ℕ, suc, ◌+◌, ◌<◌, ◌≤◌, min, Bool, true, false, cond, List, [], ◌∷◌, ◌++◌, length, get_or, take, drop, set, replicate, sym, refl, ap, ◌∙◌, arith}
use lib.Seq.{take-append_seam}
use Rattle.std.proofs.lemmas.List.{length_push, take_more, take_all, take-append-le, length-take, length-take-le}
use Rattle.cliques.specs.Sets.{filter}
use Rattle.completion.specs.declared.standing.Standing.{Standing}
use Rattle.completion.specs.Standings.{standing_of, members_of}
use Rattle.completion.proofs.Lists.{push_at, take_same}

abbrev zeros : List ℕ
zeros = replicate 256 0

abbrev made : List ℕ → ℕ → Standing
made m k = record { members = m; count = k }

pub back : (s : Standing) (X : List ℕ) → s ≡ standing_of X → members_of s ≡ X
back s X e = ap members_of e ∙ take-append_seam X (drop (length X) zeros)

pub again : (s : Standing) (X : List ℕ) → s ≡ standing_of X → s ≡ standing_of (members_of s)
again s X e = e ∙ ap standing_of (sym (back s X e))

pub counts : (s : Standing) (X : List ℕ) → s ≡ standing_of X → s.count ≡ length X
counts s X e = ap (λ (t : Standing). t.count) e

-- a list's first entries over zeros
pub of_list : (L A : List ℕ) (n : ℕ) → n ≡ min (length L) 256 → A ≡ take n L → made (A ++ drop n zeros) n ≡ standing_of (take 256 L)
of_list L A n q e =
    let l = length-take 256 L in
    let k : n ≡ length (take 256 L) = omega arith in
    let t : A ≡ take 256 L = e ∙ take_same n 256 L (omega arith) in
    ap (λ (Y : List ℕ). made (Y ++ drop n zeros) n) t ∙ ap (λ (j : ℕ). made (take 256 L ++ drop j zeros) j) k

-- one member more where there is room
pub pushed : (s : Standing) (x : ℕ) → s ≡ standing_of (members_of s) → s.count < 256
    → made (set s.members s.count x) (s.count + 1) ≡ standing_of (take 256 (members_of s ++ (x ∷ [])))
pushed s x e h =
    let X : List ℕ = members_of s in
    let l : s.count ≡ length X = counts s X e in
    let m : s.members ≡ X ++ drop (length X) zeros = ap (λ (t : Standing). t.members) e in
    let p : length X < length zeros = omega (arith, l) in
    let q = length_push X x in
    let a : suc (length X) ≡ length (X ++ (x ∷ [])) = omega (arith, q) in
    let k : s.count + 1 ≡ length (X ++ (x ∷ [])) = omega (arith, l, q) in
    let f : set s.members s.count x ≡ (X ++ (x ∷ [])) ++ drop (length (X ++ (x ∷ []))) zeros =
    ap (λ (t : List ℕ). set t s.count x) m ∙ (ap (λ (j : ℕ). set (X ++ drop (length X) zeros) j x) l ∙ (push_at X zeros x p ∙ ap (λ (j : ℕ). (X ++ (x ∷ [])) ++ drop j zeros) a)) in
    ap (λ (t : List ℕ). made t (s.count + 1)) f
    ∙ (ap (λ (j : ℕ). made ((X ++ (x ∷ [])) ++ drop (length (X ++ (x ∷ []))) zeros) j) k ∙ ap standing_of (sym (take_all 256 (X ++ (x ∷ [])) (omega arith))))

-- and none where there is not
pub push_full : (s : Standing) (x : ℕ) → s ≡ standing_of (members_of s) → length s.members ≡ 256 → 256 ≤ s.count
    → s ≡ standing_of (take 256 (members_of s ++ (x ∷ [])))
push_full s x e n h =
    let X : List ℕ = members_of s in
    let l : s.count ≡ length X = counts s X e in
    let t : length X ≤ 256 = let z = length-take s.count s.members in omega arith in
    e ∙ ap standing_of (sym (take-append-le 256 X (x ∷ []) (omega arith) ∙ take_all 256 X t))

-- a list gone through, and the entries that pass kept
filter_by : (b : Bool) (p : ℕ → Bool) (y x : ℕ) (A : List ℕ)
    → filter p (A ++ (x ∷ [])) ≡ cond (p x) (filter p A ++ (x ∷ [])) (filter p A)
    → cond b (y ∷ filter p (A ++ (x ∷ []))) (filter p (A ++ (x ∷ []))) ≡ cond (p x) (cond b (y ∷ filter p A) (filter p A) ++ (x ∷ [])) (cond b (y ∷ filter p A) (filter p A))
filter_by true p y x A q = ap (λ (z : List ℕ). y ∷ z) q ∙ swap (p x)
  where
    swap : (b : Bool) → y ∷ cond b (filter p A ++ (x ∷ [])) (filter p A) ≡ cond b (y ∷ (filter p A ++ (x ∷ []))) (y ∷ filter p A)
    swap true = refl
    swap false = refl
filter_by false p y x A q = q

filter_push : (p : ℕ → Bool) (A : List ℕ) (x : ℕ) → filter p (A ++ (x ∷ [])) ≡ cond (p x) (filter p A ++ (x ∷ [])) (filter p A)
filter_push p [] x = refl
filter_push p (y ∷ A) x = filter_by (p y) p y x A (filter_push p A x)

filter_len : (b : Bool) (x : ℕ) (r : List ℕ) (k : ℕ) → length r ≤ k → length (cond b (x ∷ r) r) ≤ suc k
filter_len true x r k h = omega arith
filter_len false x r k h = omega arith

pub filter_long : (p : ℕ → Bool) (A : List ℕ) → length (filter p A) ≤ length A
filter_long p [] = omega arith
filter_long p (x ∷ A) = filter_len (p x) x (filter p A) (length A) (filter_long p A)

module _ (p : ℕ → Bool) (xs : List ℕ) (i : ℕ) (s : Standing) (e : s ≡ standing_of (filter p (take i xs))) where
  pub filter_room : i < length xs → length xs ≤ 256 → s.count < 256
  filter_room h f =
      let a = filter_long p (take i xs) in
      let b = length-take-le i xs (omega arith) in
      let c = counts s (filter p (take i xs)) e in
      omega arith

  abbrev next : Bool → List ℕ
  next b = cond b (filter p (take i xs) ++ (get_or xs i 0 ∷ [])) (filter p (take i xs))

  more : i < length xs → (b : Bool) → p (get_or xs i 0) ≡ b → next b ≡ filter p (take (i + 1) xs)
  more h b q = sym (ap (filter p) (take_more xs i 0 h) ∙ (filter_push p (take i xs) (get_or xs i 0) ∙ ap next q))

  pub filter_yes : i < length xs → length xs ≤ 256 → (t : Standing) → p (get_or xs i 0) ≡ true
      → (s ≡ standing_of (members_of s) → t ≡ standing_of (take 256 (members_of s ++ (get_or xs i 0 ∷ [])))) → t ≡ standing_of (filter p (take (i + 1) xs))
  filter_yes h few t q f =
      let F : List ℕ = filter p (take i xs) in
      let x : ℕ = get_or xs i 0 in
      let c : s.count ≡ length F = counts s F e in
      let r : s.count < 256 = filter_room h few in
      let l = length_push F x in
      f (again s F e)
      ∙ (ap (λ (z : List ℕ). standing_of (take 256 (z ++ (x ∷ [])))) (back s F e)
      ∙ ap standing_of (take_all 256 (F ++ (x ∷ [])) (omega arith) ∙ more h true q))

  pub filter_no : i < length xs → (t : Standing) → p (get_or xs i 0) ≡ false → t ≡ s → t ≡ standing_of (filter p (take (i + 1) xs))
  filter_no h t q f = f ∙ (e ∙ ap standing_of (more h false q))
