use Rattle.walk.specs.Whole.{whole}
use Rattle.walk.proofs.walk.Walk.standing.Goals as goal

pub returns-clause-whole : goal.returns-clause-whole
returns-clause-whole g c = whole c.args.self.now
