-- How a summary is printed: four lines.
use Rattle.std.specs.Prelude.{ℕ, List, ◌++◌, codes, decimal}
use Rattle.summary.specs.declared.facts.Summary.{Summary}
use Rattle.summary.specs.declared.facts.Terms.{Terms}
use Rattle.summary.specs.declared.facts.Terms.TheVariants.{Pairs, Rule as ByRule}

abbrev pub line_of : Terms → List ℕ
line_of (Pairs n) = codes "pairs " ++ decimal n
line_of (ByRule r) = codes "rule " ++ (decimal r.diameter ++ (codes " " ++ decimal r.crown))

abbrev pub lines_of : Summary → List ℕ
lines_of s = codes "rolls " ++ (decimal s.rolls ++ (codes "\nwithout reading " ++ (decimal s.unread ++ (codes "\n" ++ (line_of s.terms ++ (codes "\nwithdrawn " ++ decimal s.withdrawn))))))
