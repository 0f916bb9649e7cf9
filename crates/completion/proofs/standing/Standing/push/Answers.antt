use Rattle.std.proofs.Common.{◌≡◌, length, arith}
use Rattle.completion.proofs.Standings.{pushed, push_full}
use Rattle.completion.proofs.standing.Standing.push.Goals as goal

pub returns-then-self-lt256 : goal.returns-then-self-lt256
returns-then-self-lt256 c = λ clean. pushed c.args.self.now c.args.x clean c.if-self-lt256.true

pub returns-else-self-lt256 : goal.returns-else-self-lt256
returns-else-self-lt256 c = λ clean. push_full c.args.self.now c.args.x clean (let l : length c.args.self.now.members ≡ 256 = omega arith in l) c.if-self-lt256.false
