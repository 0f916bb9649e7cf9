-- A record's bytes and the record that they begin are one and the same.
use Rattle.std.proofs.Common.{◌≡◌, ℕ, ◌+◌, ◌*◌, ◌/◌, ◌%◌, ◌<◌, ◌≤◌, false, cond, eqb, List, ◌∷◌, ◌++◌, length, get_or, drop, sym, refl, ap, ◌∙◌, subst, inl, inr, arith, w16, SFits, to_z, of_z, rules}
use mir.Facts.{sfits_to_z}
use Rattle.std.proofs.lemmas.List.{drop_more}
use Rattle.std.proofs.lemmas.Int.{to_z-of_z, of_z-to_z}
use Rattle.std.proofs.lemmas.Bool.{and_right, cases_eq, le-ltb, ne_eqb, or_from}
use Rattle.format.specs.declared.records.Record.{Record}
use Rattle.format.specs.declared.records.Record.TheVariants.{Card as CardRecord, Rule as RuleRecord, Pair as PairRecord, Withdrawn as WithdrawnRecord, End as EndRecord}
use Rattle.format.specs.Records.{bytes_of, card_of, cut_short, kind_of, length_of_kind, record_of, rule_of, two_at, unknown_kind}
use Rattle.format.specs.Theorems.{Bytes}

-- the fields fit their bytes
abbrev pub Fit : Record → Type 0
Fit (CardRecord c) = (c.stamp < 65536) × (c.family < 256) × (c.diameter < 4294967296) × SFits w16 c.crown
Fit (RuleRecord r) = (r.diameter < 65536) × (r.crown < 65536)
Fit (PairRecord a b) = (a < 65536) × (b < 65536)
Fit (WithdrawnRecord s) = s < 65536
Fit EndRecord = Unit {0}

-- the bytes begin with this record, and these follow it
pub record Begins (xs : List ℕ) (r : Record) (rest : List ℕ) : Type 0 where
  pub known : unknown_kind xs ≡ false
  pub whole : cut_short xs ≡ false
  pub is : record_of xs ≡ r
  pub size : length_of_kind (kind_of xs) ≡ length (bytes_of r)
  pub left : drop (length_of_kind (kind_of xs)) xs ≡ rest

two_back : (n : ℕ) → n / 256 * 256 + n % 256 ≡ n
two_back n = omega arith

four_back : (n : ℕ) → n / 16777216 * 16777216 + n / 65536 % 256 * 65536 + n / 256 % 256 * 256 + n % 256 ≡ n
four_back n = omega arith

-- bytes that are not empty, and as long as their kind asks
enough : (xs : List ℕ) → 0 < length xs → length_of_kind (kind_of xs) ≤ length xs → cut_short xs ≡ false
enough xs p l = or_from _ _ (ne_eqb _ _ (omega arith)) (le-ltb _ _ l)

-- the bytes of a record begin with it
pub begins : (r : Record) (rest : List ℕ) → Fit r → Begins (bytes_of r ++ rest) r rest
begins (CardRecord c) rest f = record {
  known = and_right _ _ refl;
  whole = enough (bytes_of (CardRecord c) ++ rest) (omega arith) (omega arith);
  size = refl;
  left = refl;
  is = λ i. CardRecord (record {
    stamp = two_back c.stamp i;
    family = c.family;
    diameter = four_back c.diameter i;
    crown = (ap (to_z w16) (two_back (of_z w16 c.crown)) ∙ to_z-of_z w16 c.crown f.3) i;
  });
}
begins (RuleRecord r) rest f = record {
  known = and_right _ _ refl;
  whole = enough (bytes_of (RuleRecord r) ++ rest) (omega arith) (omega arith);
  size = refl;
  left = refl;
  is = λ i. RuleRecord (record { diameter = two_back r.diameter i; crown = two_back r.crown i });
}
begins (PairRecord a b) rest f = record {
  known = and_right _ _ refl;
  whole = enough (bytes_of (PairRecord a b) ++ rest) (omega arith) (omega arith);
  size = refl;
  left = refl;
  is = λ i. PairRecord (two_back a i) (two_back b i);
}
begins (WithdrawnRecord s) rest f = record {
  known = and_right _ _ refl;
  whole = enough (bytes_of (WithdrawnRecord s) ++ rest) (omega arith) (omega arith);
  size = refl;
  left = refl;
  is = λ i. WithdrawnRecord (two_back s i);
}
begins EndRecord rest f = record { known = and_right _ _ refl; whole = enough (bytes_of EndRecord ++ rest) (omega arith) (omega arith); size = refl; left = refl; is = refl }

-- the first bytes, one by one
three : (xs : List ℕ) → 3 ≤ length xs → xs ≡ get_or xs 0 0 ∷ get_or xs 1 0 ∷ get_or xs 2 0 ∷ drop 3 xs
three xs h =
    drop_more xs 0 0 (omega arith) ∙ ap (λ t. get_or xs 0 0 ∷ t) (drop_more xs 1 0 (omega arith) ∙ ap (λ t. get_or xs 1 0 ∷ t) (drop_more xs 2 0 (omega arith)))

five : (xs : List ℕ) → 5 ≤ length xs → xs ≡ get_or xs 0 0 ∷ get_or xs 1 0 ∷ get_or xs 2 0 ∷ get_or xs 3 0 ∷ get_or xs 4 0 ∷ drop 5 xs
five xs h =
    three xs (omega arith) ∙ ap (λ t. get_or xs 0 0 ∷ get_or xs 1 0 ∷ get_or xs 2 0 ∷ t) (drop_more xs 3 0 (omega arith) ∙ ap (λ t. get_or xs 3 0 ∷ t) (drop_more xs 4 0 (omega arith)))

ten : (xs : List ℕ) → 10 ≤ length xs
    → xs ≡ get_or xs 0 0 ∷ get_or xs 1 0 ∷ get_or xs 2 0 ∷ get_or xs 3 0 ∷ get_or xs 4 0 ∷ get_or xs 5 0 ∷ get_or xs 6 0 ∷ get_or xs 7 0 ∷ get_or xs 8 0 ∷ get_or xs 9 0 ∷ drop 10 xs
ten xs h =
    five xs (omega arith) ∙ ap (λ t. get_or xs 0 0 ∷ get_or xs 1 0 ∷ get_or xs 2 0 ∷ get_or xs 3 0 ∷ get_or xs 4 0 ∷ t)
    (drop_more xs 5 0 (omega arith) ∙ ap (λ t. get_or xs 5 0 ∷ t) (drop_more xs 6 0 (omega arith) ∙ ap (λ t. get_or xs 6 0 ∷ t) (drop_more xs 7 0 (omega arith)
    ∙ ap (λ t. get_or xs 7 0 ∷ t) (drop_more xs 8 0 (omega arith) ∙ ap (λ t. get_or xs 8 0 ∷ t) (drop_more xs 9 0 (omega arith))))))

high : (h l : ℕ) → l < 256 → h ≡ (h * 256 + l) / 256
high h l p = omega arith

low : (h l : ℕ) → l < 256 → l ≡ (h * 256 + l) % 256
low h l p = omega arith

parts : (a b c d : ℕ) → b < 256 → c < 256 → d < 256 → let n = a * 16777216 + b * 65536 + c * 256 + d in
    (a ≡ n / 16777216) × (b ≡ n / 65536 % 256) × (c ≡ n / 256 % 256) × (d ≡ n % 256)
parts a b c d p q r = (omega arith, omega arith, omega arith, omega arith)

-- the record of a kind
abbrev pick : List ℕ → ℕ → Record
pick xs k =
    cond (eqb k 1) (CardRecord (card_of xs)) (cond (eqb k 2) (RuleRecord (rule_of xs))
    (cond (eqb k 3) (PairRecord (two_at xs 1) (two_at xs 3)) (cond (eqb k 4) (WithdrawnRecord (two_at xs 1)) EndRecord)))

-- the bytes are those of the record, and then the rest
abbrev Spelt : List ℕ → Record → ℕ → Type 0
Spelt xs r n = (xs ≡ bytes_of r ++ drop n xs) × Fit r × (length (bytes_of r) ≡ n)

spelt_kind : (xs : List ℕ) (k : ℕ) → kind_of xs ≡ k → Spelt xs (pick xs k) (length_of_kind k) → Spelt xs (record_of xs) (length_of_kind (kind_of xs))
spelt_kind xs k e h = subst (λ j. Spelt xs (pick xs j) (length_of_kind j)) (sym e) h

no_kind : (k : ℕ) → (k ≡ 1 → ⊥) → (k ≡ 2 → ⊥) → (k ≡ 3 → ⊥) → (k ≡ 4 → ⊥) → (k ≡ 5 → ⊥) → length_of_kind k ≡ 0
no_kind k a b c d e = rw (ne_eqb k 1 a, ne_eqb k 2 b, ne_eqb k 3 c, ne_eqb k 4 d, ne_eqb k 5 e) refl

-- a record that is read is spelt so
pub spelt : (xs : List ℕ) → Bytes xs → 0 < length_of_kind (kind_of xs) → length_of_kind (kind_of xs) ≤ length xs → Spelt xs (record_of xs) (length_of_kind (kind_of xs))
spelt xs t p l = elim (cases_eq (a 0) 1) [
  | inl e ↦ spelt_kind xs 1 e (card e)
  | inr n1 ↦ elim (cases_eq (a 0) 2) [
    | inl e ↦ spelt_kind xs 2 e (rule e)
    | inr n2 ↦ elim (cases_eq (a 0) 3) [
      | inl e ↦ spelt_kind xs 3 e (pair e)
      | inr n3 ↦ elim (cases_eq (a 0) 4) [
        | inl e ↦ spelt_kind xs 4 e (gone e)
        | inr n4 ↦ elim (cases_eq (a 0) 5) [
          | inl e ↦ spelt_kind xs 5 e (end e)
          | inr n5 ↦ absurd (omega (arith, no_kind (a 0) n1 n2 n3 n4 n5))
        ]
      ]
    ]
  ]
]
  where
    a : ℕ → ℕ
    a i = get_or xs i 0

    long : (k : ℕ) → kind_of xs ≡ k → length_of_kind k ≤ length xs
    long k e = subst (λ j. length_of_kind j ≤ length xs) e l

    card : a 0 ≡ 1 → Spelt xs (CardRecord (card_of xs)) 10
    card e =
        let q = parts (a 4) (a 5) (a 6) (a 7) (t 5) (t 6) (t 7) in
        let n : a 8 * 256 + a 9 < 65536 = omega (arith, t 8, t 9) in
        let z : of_z w16 (to_z w16 (two_at xs 8)) ≡ two_at xs 8 = of_z-to_z w16 _ n in (
          ten xs (long 1 e) ∙ (λ i. e i ∷ high (a 1) (a 2) (t 2) i ∷ low (a 1) (a 2) (t 2) i ∷ a 3 ∷ q.0 i ∷ q.1 i ∷ q.2 i ∷ q.3 i
              ∷ (high (a 8) (a 9) (t 9) ∙ ap (λ m. m / 256) (sym z)) i ∷ (low (a 8) (a 9) (t 9) ∙ ap (λ m. m % 256) (sym z)) i ∷ drop 10 xs),
          (omega (arith, t 1, t 2), t 3, omega (arith, t 4, t 5, t 6, t 7), sfits_to_z {w = w16} {n = two_at xs 8} (search rules)),
          refl,
        )

    rule : a 0 ≡ 2 → Spelt xs (RuleRecord (rule_of xs)) 5
    rule e = (
      five xs (long 2 e) ∙ (λ i. e i ∷ high (a 1) (a 2) (t 2) i ∷ low (a 1) (a 2) (t 2) i ∷ high (a 3) (a 4) (t 4) i ∷ low (a 3) (a 4) (t 4) i ∷ drop 5 xs),
      (omega (arith, t 1, t 2), omega (arith, t 3, t 4)),
      refl,
    )

    pair : a 0 ≡ 3 → Spelt xs (PairRecord (two_at xs 1) (two_at xs 3)) 5
    pair e = (
      five xs (long 3 e) ∙ (λ i. e i ∷ high (a 1) (a 2) (t 2) i ∷ low (a 1) (a 2) (t 2) i ∷ high (a 3) (a 4) (t 4) i ∷ low (a 3) (a 4) (t 4) i ∷ drop 5 xs),
      (omega (arith, t 1, t 2), omega (arith, t 3, t 4)),
      refl,
    )

    gone : a 0 ≡ 4 → Spelt xs (WithdrawnRecord (two_at xs 1)) 3
    gone e = (
      three xs (long 4 e) ∙ (λ i. e i ∷ high (a 1) (a 2) (t 2) i ∷ low (a 1) (a 2) (t 2) i ∷ drop 3 xs),
      omega (arith, t 1, t 2),
      refl,
    )

    end : a 0 ≡ 5 → Spelt xs EndRecord 1
    end e = (drop_more xs 0 0 (long 5 e) ∙ (λ i. e i ∷ drop 1 xs), tt, refl)
