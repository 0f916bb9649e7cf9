use Rattle.model.proofs.theorems.model_obeys.Goals as goal
use Rattle.model.proofs.Turns.{step_obeys, read_obeys, resume_obeys}

pub returns : goal.returns
returns c = λ g law. record { step = step_obeys g law; read = read_obeys g law; resume = resume_obeys g law }
