use Rattle.std.proofs.Common.{◌≡◌, List, ℕ, [], ◌∷◌, ◌++◌, take, ap, ◌∙◌}
use Rattle.std.proofs.lemmas.List.{take_all}
use Rattle.completion.specs.Standings.{members_of, standing_of}
use Rattle.completion.proofs.Standings.{again, back}
use Rattle.completion.proofs.standing.Standing.with.Goals as goal

pub returns : goal.returns
returns c =
    let M = c.members.result.now in
    let e : members_of c.of-set.result ≡ members_of c.args.self.now = back c.of-set.result (take 256 M) c.of-set.ensures ∙ (take_all 256 M c.members.ensures.few ∙ c.members.ensures.members) in
    c.push.ensures (again c.of-set.result (take 256 M) c.of-set.ensures)
    ∙ ap (λ (Y : List ℕ). standing_of (take 256 (Y ++ (c.args.x ∷ [])))) e
