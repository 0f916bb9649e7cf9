-- The records of well-formed contents keep every rule, and records that keep every rule up to an end are such.
use Rattle.std.proofs.Common.{◌≡◌, ℕ, ◌+◌, ◌<◌, ◌≤◌, true, false, not, ◌&&◌, eqb, leb, List, [], ◌∷◌, ◌++◌, map, length, ℤ, pos, negsuc, Some, None, Option, sym, refl, ap, ◌∙◌, subst, append_assoc, arith, w16, SFits}
use lib.Signed.{le_z}
use Rattle.std.proofs.lemmas.List.{append-nil, length-append}
use Rattle.std.proofs.lemmas.Int.{ints}
use Rattle.std.proofs.lemmas.Bool.{and_from, and_parts, leb-false, leb-true, lt-leb, not-false, not_from_true}
use Rattle.std.specs.List.{AllByRecursion as All}
use Rattle.refusal.specs.declared.Reason.TheVariants.{DuplicateStamp, OutOfRange, Repeated, SelfPair, TooMany, UnknownStamp}
use Rattle.format.specs.declared.card.Card.{Card}
use Rattle.format.specs.declared.card.Rule.{Rule}
use Rattle.format.specs.declared.records.Record.{Record}
use Rattle.format.specs.declared.records.Record.TheVariants.{Card as CardRecord, Rule as RuleRecord, Pair as PairRecord, Withdrawn as WithdrawnRecord, End as EndRecord}
use Rattle.format.specs.declared.records.Section.{Section}
use Rattle.format.specs.declared.records.Section.TheVariants.{Cards, Ruled, Paired, Withdrawing, Done}
use Rattle.format.specs.Records.{card_ok, fields_ok, stamp_ok}
use Rattle.format.specs.Sections.{is_done}
use Rattle.format.specs.Grammar.{Terms, by_rule, by_pairs, Contents, pair_record, term_records, last_records, records_of, on_card, said_pair, said, EachAfter, GoodCard, GoodPair, GoodWithdrawn, GoodTerms, WellFormed}
use Rattle.format.specs.Rules.{Draft, blank, Test, first_broken, own_rules}
use Rattle.format.specs.Theorems.{after, Kept, draft_of, rule_in, pairs_in}
use Rattle.format.proofs.Lexed.{Fit}
use Rattle.format.proofs.Logic.{clash, keep, kept, some_none}

abbrev draft : Section → List Card → Option Rule → List (ℕ × ℕ) → List ℕ → Draft
draft s cs o ps ws = record { section = s; cards = cs; rule = o; pairs = ps; withdrawn = ws }

-- the rules of a record that may stand in its section
abbrev in_section : Draft → Record → List Test
in_section d r = (OutOfRange, not (fields_ok r)) ∷ own_rules d r

-- ---- kept rules are good records, and the other way round

card_good : (d : Draft) (c : Card) → c.family < 256 → first_broken (in_section d (CardRecord c)) ≡ None → (length d.cards < 256) × GoodCard d.cards c
card_good d c f e =
    let a = keep (not (card_ok c)) OutOfRange e in
    let b = keep (leb 256 (length d.cards)) TooMany a.1 in
    let g = keep (on_card d.cards c.stamp) DuplicateStamp b.1 in
    (leb-false _ _ b.0, record { in_range = not-false _ a.0; family = f; new = g.0 })

good_card : (d : Draft) (c : Card) → length d.cards < 256 → GoodCard d.cards c → first_broken (in_section d (CardRecord c)) ≡ None
good_card d c l g = kept (not (card_ok c)) OutOfRange (not_from_true _ g.in_range) (kept (leb 256 (length d.cards)) TooMany (lt-leb _ _ l) (kept (on_card d.cards c.stamp) DuplicateStamp g.new refl))

pair_good : (d : Draft) (a b : ℕ) → first_broken (in_section d (PairRecord a b)) ≡ None → GoodPair d.cards d.pairs (a, b)
pair_good d a b e =
    let r = keep (not (stamp_ok a && stamp_ok b)) OutOfRange e in
    let k = keep (not (on_card d.cards a && on_card d.cards b)) UnknownStamp r.1 in
    let s = keep (eqb a b) SelfPair k.1 in
    let n = keep (said_pair d.pairs a b) Repeated s.1 in
    record { in_range = and_parts _ _ (not-false _ r.0); known = and_parts _ _ (not-false _ k.0); apart = s.0; new = n.0 }

good_pair : (d : Draft) (a b : ℕ) → GoodPair d.cards d.pairs (a, b) → first_broken (in_section d (PairRecord a b)) ≡ None
good_pair d a b g =
    kept (not (stamp_ok a && stamp_ok b)) OutOfRange (not_from_true _ (and_from _ _ g.in_range.0 g.in_range.1))
    (kept (not (on_card d.cards a && on_card d.cards b)) UnknownStamp (not_from_true _ (and_from _ _ g.known.0 g.known.1))
    (kept (eqb a b) SelfPair g.apart (kept (said_pair d.pairs a b) Repeated g.new refl)))

withdrawn_good : (d : Draft) (s : ℕ) → first_broken (in_section d (WithdrawnRecord s)) ≡ None → GoodWithdrawn d.cards d.withdrawn s
withdrawn_good d s e =
    let r = keep (not (stamp_ok s)) OutOfRange e in
    let k = keep (not (on_card d.cards s)) UnknownStamp r.1 in
    let n = keep (said d.withdrawn s) Repeated k.1 in
    record { in_range = not-false _ r.0; known = not-false _ k.0; new = n.0 }

good_withdrawn : (d : Draft) (s : ℕ) → GoodWithdrawn d.cards d.withdrawn s → first_broken (in_section d (WithdrawnRecord s)) ≡ None
good_withdrawn d s g = kept (not (stamp_ok s)) OutOfRange (not_from_true _ g.in_range) (kept (not (on_card d.cards s)) UnknownStamp (not_from_true _ g.known) (kept (said d.withdrawn s) Repeated g.new refl))

-- ---- the records of well-formed contents

-- the records keep every rule, and lead to the draft
abbrev Leads : Draft → List Record → Draft → Type 0
Leads d rs t = Kept d rs × (after d rs ≡ t)

module _ (cs : List Card) (o : Option Rule) where
  withdrawn_lead : (xs : List ℕ) (s : Section) (ps : List (ℕ × ℕ)) (ws : List ℕ) → is_done s ≡ false → EachAfter (GoodWithdrawn cs) ws xs
      → Leads (draft s cs o ps ws) (last_records xs) (draft Done cs o ps (ws ++ xs))
  withdrawn_lead [] s ps ws g h = go s g
    where
      e : draft Done cs o ps ws ≡ draft Done cs o ps (ws ++ [])
      e = ap (draft Done cs o ps) (sym (append-nil ws))

      go : (s : Section) → is_done s ≡ false → Leads (draft s cs o ps ws) (EndRecord ∷ []) (draft Done cs o ps (ws ++ []))
      go Cards g = ((refl, tt), e)
      go Ruled g = ((refl, tt), e)
      go Paired g = ((refl, tt), e)
      go Withdrawing g = ((refl, tt), e)
      go Done g = clash g
  withdrawn_lead (x ∷ xs) s ps ws g h = go s g (withdrawn_lead xs Withdrawing ps (ws ++ x ∷ []) refl h.1)
    where
      to : Leads (draft Withdrawing cs o ps (ws ++ x ∷ [])) (last_records xs) (draft Done cs o ps ((ws ++ x ∷ []) ++ xs))
          → Leads (draft Withdrawing cs o ps (ws ++ x ∷ [])) (last_records xs) (draft Done cs o ps (ws ++ x ∷ xs))
      to r = (r.0, r.1 ∙ ap (draft Done cs o ps) (append_assoc ws (x ∷ []) xs))

      go : (s : Section) → is_done s ≡ false → Leads (draft Withdrawing cs o ps (ws ++ x ∷ [])) (last_records xs) (draft Done cs o ps ((ws ++ x ∷ []) ++ xs))
          → Leads (draft s cs o ps ws) (WithdrawnRecord x ∷ last_records xs) (draft Done cs o ps (ws ++ x ∷ xs))
      go Cards g r = ((good_withdrawn (draft Cards cs o ps ws) x h.0, (to r).0), (to r).1)
      go Ruled g r = ((good_withdrawn (draft Ruled cs o ps ws) x h.0, (to r).0), (to r).1)
      go Paired g r = ((good_withdrawn (draft Paired cs o ps ws) x h.0, (to r).0), (to r).1)
      go Withdrawing g r = ((good_withdrawn (draft Withdrawing cs o ps ws) x h.0, (to r).0), (to r).1)
      go Done g r = clash g

  pairs_lead : (qs : List (ℕ × ℕ)) (ps : List (ℕ × ℕ)) (tl : List Record) (t : Draft) → EachAfter (GoodPair cs) ps qs
      → Leads (draft Paired cs o (ps ++ qs) []) tl t → Leads (draft Paired cs o ps []) (map pair_record qs ++ tl) t
  pairs_lead [] ps tl t h k = subst (λ v. Leads (draft Paired cs o v []) tl t) (append-nil ps) k
  pairs_lead (q ∷ qs) ps tl t h k =
      let r = pairs_lead qs (ps ++ q ∷ []) tl t h.1 (subst (λ v. Leads (draft Paired cs o v []) tl t) (sym (append_assoc ps (q ∷ []) qs)) k) in
      ((good_pair (draft Paired cs o ps []) q.0 q.1 h.0, r.0), r.1)

  -- the first pair leaves the section of the cards
  first_pair : (qs : List (ℕ × ℕ)) (tl : List Record) (t : Draft) → EachAfter (GoodPair cs) [] qs
      → ((s : Section) → is_done s ≡ false → Leads (draft s cs o qs []) tl t) → Leads (draft Cards cs o [] []) (map pair_record qs ++ tl) t
  first_pair [] tl t h k = k Cards refl
  first_pair (q ∷ qs) tl t h k =
      let r = pairs_lead qs (q ∷ []) tl t h.1 (k Paired refl) in
      ((good_pair (draft Cards cs o [] []) q.0 q.1 h.0, r.0), r.1)

cards_lead : (ds : List Card) (cs : List Card) (tl : List Record) (t : Draft) → length cs + length ds ≤ 256 → EachAfter GoodCard cs ds
    → Leads (draft Cards (cs ++ ds) None [] []) tl t → Leads (draft Cards cs None [] []) (map CardRecord ds ++ tl) t
cards_lead [] cs tl t l h k = subst (λ v. Leads (draft Cards v None [] []) tl t) (append-nil cs) k
cards_lead (c ∷ ds) cs tl t l h k =
    let m : length (cs ++ c ∷ []) + length ds ≤ 256 = omega (arith, length-append cs (c ∷ [])) in
    let r = cards_lead ds (cs ++ c ∷ []) tl t m h.1 (subst (λ v. Leads (draft Cards v None [] []) tl t) (sym (append_assoc cs (c ∷ []) ds)) k) in
    ((good_card (draft Cards cs None [] []) c (omega arith) h.0, r.0), r.1)

terms_lead : (cs : List Card) (t : Terms) (ws : List ℕ) → GoodTerms cs t → EachAfter (GoodWithdrawn cs) [] ws
    → Leads (draft Cards cs None [] []) (term_records t ++ last_records ws) (draft Done cs (rule_in t) (pairs_in t) ws)
terms_lead cs (by_rule r) ws g h =
    let w = withdrawn_lead cs (Some r) ws Ruled [] [] refl h in
    ((refl, w.0), w.1)
terms_lead cs (by_pairs ps) ws g h = first_pair cs None ps (last_records ws) _ g (λ s o. withdrawn_lead cs None ws s ps [] o h)

pub leads : (b : Contents) → WellFormed b → Leads blank (records_of b) (draft_of b)
leads b w = cards_lead b.cards [] (term_records b.terms ++ last_records b.withdrawn) (draft_of b) (omega (arith, w.few)) w.cards (terms_lead b.cards b.terms b.withdrawn w.terms w.withdrawn)

-- the fields of well-formed contents fit their bytes
within : (z : ℤ) → le_z (negsuc 499) z ≡ true → le_z z (pos 500) ≡ true → SFits w16 z
within z a b = grind (arith, ints)

stamp_fits : (s : ℕ) → stamp_ok s ≡ true → s < 65536
stamp_fits s h = omega (arith, leb-true s 9999 (and_parts _ _ h).1)

card_fits : (before : List Card) (c : Card) → GoodCard before c → Fit (CardRecord c)
card_fits before c g =
    let p1 = and_parts _ _ g.in_range in
    let p2 = and_parts _ _ p1.1 in
    let p3 = and_parts _ _ p2.1 in
    let p4 = and_parts _ _ p3.1 in
    let p5 = and_parts _ _ p4.1 in
    (stamp_fits c.stamp p1.0, g.family, omega (arith, leb-true c.diameter 200000 p3.0), within c.crown p4.0 p5.0)

cards_fit : (cs before : List Card) (tl : List Record) → EachAfter GoodCard before cs → All Fit tl → All Fit (map CardRecord cs ++ tl)
cards_fit [] before tl h t = t
cards_fit (c ∷ cs) before tl h t = (card_fits before c h.0, cards_fit cs (before ++ c ∷ []) tl h.1 t)

pairs_fit : (cs : List Card) (ps before : List (ℕ × ℕ)) (tl : List Record) → EachAfter (GoodPair cs) before ps → All Fit tl → All Fit (map pair_record ps ++ tl)
pairs_fit cs [] before tl h t = t
pairs_fit cs (p ∷ ps) before tl h t = ((stamp_fits p.0 h.0.in_range.0, stamp_fits p.1 h.0.in_range.1), pairs_fit cs ps (before ++ p ∷ []) tl h.1 t)

last_fit : (cs : List Card) (xs before : List ℕ) → EachAfter (GoodWithdrawn cs) before xs → All Fit (last_records xs)
last_fit cs [] before h = (tt, tt)
last_fit cs (x ∷ xs) before h = (stamp_fits x h.0.in_range, last_fit cs xs (before ++ x ∷ []) h.1)

terms_fit : (cs : List Card) (t : Terms) (tl : List Record) → GoodTerms cs t → All Fit tl → All Fit (term_records t ++ tl)
terms_fit cs (by_rule r) tl g f = ((g.diameter, g.crown), f)
terms_fit cs (by_pairs ps) tl g f = pairs_fit cs ps [] tl g f

pub fits : (b : Contents) → WellFormed b → All Fit (records_of b)
fits b w = cards_fit b.cards [] _ w.cards (terms_fit b.cards b.terms _ w.terms (last_fit b.cards b.withdrawn [] w.withdrawn))

-- ---- records that keep every rule up to an end

abbrev Ended : Draft → List Record → Type 0
Ended d rs = Kept d rs × (is_done (after d rs).section ≡ true)

done_only : (cs : List Card) (o : Option Rule) (ps : List (ℕ × ℕ)) (ws : List ℕ) (rs : List Record) → Kept (draft Done cs o ps ws) rs → rs ≡ []
done_only cs o ps ws [] k = refl
done_only cs o ps ws (CardRecord c ∷ rs) k = some_none k.0
done_only cs o ps ws (RuleRecord r ∷ rs) k = some_none k.0
done_only cs o ps ws (PairRecord a b ∷ rs) k = some_none k.0
done_only cs o ps ws (WithdrawnRecord s ∷ rs) k = some_none k.0
done_only cs o ps ws (EndRecord ∷ rs) k = some_none k.0

-- withdrawn rolls and the end
pub record Last (cs : List Card) (ws : List ℕ) (rs : List Record) : Type 0 where
  pub more : List ℕ
  pub is : rs ≡ last_records more
  pub good : EachAfter (GoodWithdrawn cs) ws more

module _ (cs : List Card) (o : Option Rule) (ps : List (ℕ × ℕ)) where
  last_end : (ws : List ℕ) (rs : List Record) → Kept (draft Done cs o ps ws) rs → Last cs ws (EndRecord ∷ rs)
  last_end ws rs k = record { more = []; is = ap (λ v. EndRecord ∷ v) (done_only cs o ps ws rs k); good = tt }

  last_more : (d : Draft) (s : ℕ) (rs : List Record) → first_broken (in_section d (WithdrawnRecord s)) ≡ None → Last d.cards (d.withdrawn ++ s ∷ []) rs → Last d.cards d.withdrawn (WithdrawnRecord s ∷ rs)
  last_more d s rs e r = record { more = s ∷ r.more; is = ap (λ v. WithdrawnRecord s ∷ v) r.is; good = (withdrawn_good d s e, r.good) }

  last_in : (rs : List Record) (ws : List ℕ) → Ended (draft Withdrawing cs o ps ws) rs → Last cs ws rs
  last_in [] ws e = clash (sym e.1)
  last_in (CardRecord c ∷ rs) ws e = some_none e.0.0
  last_in (RuleRecord r ∷ rs) ws e = some_none e.0.0
  last_in (PairRecord a b ∷ rs) ws e = some_none e.0.0
  last_in (WithdrawnRecord s ∷ rs) ws e = last_more (draft Withdrawing cs o ps ws) s rs e.0.0 (last_in rs (ws ++ s ∷ []) (e.0.1, e.1))
  last_in (EndRecord ∷ rs) ws e = last_end ws rs e.0.1

  last_ruled : (rs : List Record) → Ended (draft Ruled cs o ps []) rs → Last cs [] rs
  last_ruled [] e = clash (sym e.1)
  last_ruled (CardRecord c ∷ rs) e = some_none e.0.0
  last_ruled (RuleRecord r ∷ rs) e = some_none e.0.0
  last_ruled (PairRecord a b ∷ rs) e = some_none e.0.0
  last_ruled (WithdrawnRecord s ∷ rs) e = last_more (draft Ruled cs o ps []) s rs e.0.0 (last_in rs (s ∷ []) (e.0.1, e.1))
  last_ruled (EndRecord ∷ rs) e = last_end [] rs e.0.1

-- pairs, then those
pub record Pairs (cs : List Card) (ps : List (ℕ × ℕ)) (rs : List Record) : Type 0 where
  pub more : List (ℕ × ℕ)
  pub withdrawn : List ℕ
  pub is : rs ≡ map pair_record more ++ last_records withdrawn
  pub good : EachAfter (GoodPair cs) ps more
  pub good_withdrawn : EachAfter (GoodWithdrawn cs) [] withdrawn

no_pairs : (cs : List Card) (ps : List (ℕ × ℕ)) (rs : List Record) → Last cs [] rs → Pairs cs ps rs
no_pairs cs ps rs l = record { more = []; withdrawn = l.more; is = l.is; good = tt; good_withdrawn = l.good }

one_pair : (d : Draft) (a b : ℕ) (rs : List Record) → first_broken (in_section d (PairRecord a b)) ≡ None → Pairs d.cards (d.pairs ++ (a, b) ∷ []) rs → Pairs d.cards d.pairs (PairRecord a b ∷ rs)
one_pair d a b rs e r = record { more = (a, b) ∷ r.more; withdrawn = r.withdrawn; is = ap (λ v. PairRecord a b ∷ v) r.is; good = (pair_good d a b e, r.good); good_withdrawn = r.good_withdrawn }

pairs_in_lem : (cs : List Card) (o : Option Rule) (rs : List Record) (ps : List (ℕ × ℕ)) → Ended (draft Paired cs o ps []) rs → Pairs cs ps rs
pairs_in_lem cs o [] ps e = clash (sym e.1)
pairs_in_lem cs o (CardRecord c ∷ rs) ps e = some_none e.0.0
pairs_in_lem cs o (RuleRecord r ∷ rs) ps e = some_none e.0.0
pairs_in_lem cs o (PairRecord a b ∷ rs) ps e = one_pair (draft Paired cs o ps []) a b rs e.0.0 (pairs_in_lem cs o rs (ps ++ (a, b) ∷ []) (e.0.1, e.1))
pairs_in_lem cs o (WithdrawnRecord s ∷ rs) ps e = no_pairs cs ps _ (last_more cs o ps (draft Paired cs o ps []) s rs e.0.0 (last_in cs o ps rs (s ∷ []) (e.0.1, e.1)))
pairs_in_lem cs o (EndRecord ∷ rs) ps e = no_pairs cs ps _ (last_end cs o ps [] rs e.0.1)

-- all that follows the cards so far
pub record Rest (cs : List Card) (rs : List Record) : Type 0 where
  pub more : List Card
  pub terms : Terms
  pub withdrawn : List ℕ
  pub is : rs ≡ map CardRecord more ++ (term_records terms ++ last_records withdrawn)
  pub few : length (cs ++ more) ≤ 256
  pub good : EachAfter GoodCard cs more
  pub good_terms : GoodTerms (cs ++ more) terms
  pub good_withdrawn : EachAfter (GoodWithdrawn (cs ++ more)) [] withdrawn

no_cards : (cs : List Card) (t : Terms) (ws : List ℕ) (rs : List Record) → length cs ≤ 256 → rs ≡ term_records t ++ last_records ws → GoodTerms cs t → EachAfter (GoodWithdrawn cs) [] ws → Rest cs rs
no_cards cs t ws rs l e g h =
    let a : cs ≡ cs ++ [] = sym (append-nil cs) in
    record {
      more = [];
      terms = t;
      withdrawn = ws;
      is = e;
      few = subst (λ v. length v ≤ 256) a l;
      good = tt;
      good_terms = subst (λ v. GoodTerms v t) a g;
      good_withdrawn = subst (λ v. EachAfter (GoodWithdrawn v) [] ws) a h;
    }

of_pairs : (cs : List Card) (rs : List Record) → length cs ≤ 256 → Pairs cs [] rs → Rest cs rs
of_pairs cs rs l p = no_cards cs (by_pairs p.more) p.withdrawn rs l p.is p.good p.good_withdrawn

cards_in_lem : (rs : List Record) (cs : List Card) → All Fit rs → length cs ≤ 256 → Ended (draft Cards cs None [] []) rs → Rest cs rs
cards_in_lem [] cs f l e = clash (sym e.1)
cards_in_lem (CardRecord c ∷ rs) cs f l e =
    let g = card_good (draft Cards cs None [] []) c f.0.1 e.0.0 in
    let m : length (cs ++ c ∷ []) ≤ 256 = omega (arith, length-append cs (c ∷ []), g.0) in
    let r = cards_in_lem rs (cs ++ c ∷ []) f.1 m (e.0.1, e.1) in
    let a : (cs ++ c ∷ []) ++ r.more ≡ cs ++ c ∷ r.more = append_assoc cs (c ∷ []) r.more in
    record {
      more = c ∷ r.more;
      terms = r.terms;
      withdrawn = r.withdrawn;
      is = ap (λ v. CardRecord c ∷ v) r.is;
      few = subst (λ v. length v ≤ 256) a r.few;
      good = (g.1, r.good);
      good_terms = subst (λ v. GoodTerms v r.terms) a r.good_terms;
      good_withdrawn = subst (λ v. EachAfter (GoodWithdrawn v) [] r.withdrawn) a r.good_withdrawn;
    }
cards_in_lem (RuleRecord r ∷ rs) cs f l e =
    let w = last_ruled cs (Some r) [] rs (e.0.1, e.1) in
    no_cards cs (by_rule r) w.more _ l (ap (λ v. RuleRecord r ∷ v) w.is) (record { diameter = f.0.0; crown = f.0.1 }) w.good
cards_in_lem (PairRecord a b ∷ rs) cs f l e = of_pairs cs _ l (one_pair (draft Cards cs None [] []) a b rs e.0.0 (pairs_in_lem cs None rs ((a, b) ∷ []) (e.0.1, e.1)))
cards_in_lem (WithdrawnRecord s ∷ rs) cs f l e = of_pairs cs _ l (no_pairs cs [] _ (last_more cs None [] (draft Cards cs None [] []) s rs e.0.0 (last_in cs None [] rs (s ∷ []) (e.0.1, e.1))))
cards_in_lem (EndRecord ∷ rs) cs f l e = of_pairs cs _ l (no_pairs cs [] _ (last_end cs None [] [] rs e.0.1))

pub contents : (rs : List Record) → All Fit rs → Kept blank rs → is_done (after blank rs).section ≡ true → (b : Contents) × (rs ≡ records_of b) × WellFormed b
contents rs f k e =
    let r = cards_in_lem rs [] f (omega arith) (k, e) in (
      record { cards = r.more; terms = r.terms; withdrawn = r.withdrawn },
      r.is,
      record { few = r.few; cards = r.good; terms = r.good_terms; withdrawn = r.good_withdrawn },
    )
