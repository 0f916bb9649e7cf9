use Rattle.std.specs.Prelude.{MatchOption}
use Rattle.std.proofs.Common.{◌≡◌, ℕ, ◌<◌, ◌≤◌, true, false, Some, None, Option, ◌∙◌, ⊎_elim, arith, rules}
use Rattle.std.proofs.lemmas.Bool.{cases_lt}
use Rattle.std.proofs.lemmas.Iterator.{first_from_Range}
use Rattle.cliques.specs.Graph.{Graph, Lawful}
use Rattle.pairs.specs.Tables.{FirstPartner}
use Rattle.pairs.proofs.table.PairTable.first_partner.Goals as goal

-- what `find` tells of the places below the size holds of every place, since none above them has a partner
found : (g : Graph) → Lawful g → (n : ℕ) → n ≡ g.size → (u w : ℕ) (o : Option ℕ) → MatchOption o ((k : ℕ) → w ≤ k → k < n → g.partners u k ≡ false) (λ i. (w ≤ i) × (i < n) × (g.partners u i ≡ true) × ((k : ℕ) → w ≤ k → k < i → g.partners u k ≡ false)) → FirstPartner g u w o
found g lawful n size u w None none = λ k low. ⊎_elim (none k low) (λ (high : n ≤ k). lawful.both u k ∙ lawful.within k u (omega arith)) (cases_lt k n)
found g lawful n size u w (Some i) one = (one.0, one.2, one.3)

pub returns : goal.returns
returns g c =
    let test = (g.Self.PairTable.meaning c.args.self.now).partners c.args.u in
    found (g.Self.PairTable.meaning c.args.self.now) (g.Self.PairTable.lawful c.args.self.now) c.size.result c.size.ensures c.args.u c.args.w c.find.result
    (first_from_Range _ _ _ c.find.result (λ k. test k ≡ true) (λ k. test k ≡ false) c.find.ensures.ran (λ x q k. search rules) (λ x q k. search rules))
