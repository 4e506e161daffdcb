use Rattle.std.proofs.Common.{◌≡◌, Some, rules}
use Rattle.rules.specs.Kinds.{switch}
use Rattle.lines.specs.Parts.{bytes_of}
use Rattle.lines.specs.Rule.{rule_line}
use Rattle.lines.proofs.part.Part.rule.Goals as goal

pub returns-in-Some-threshold_after : goal.returns-in-Some-threshold_after
returns-in-Some-threshold_after c =
    let means : rule_line (bytes_of c.args.self.now) ≡ Some (switch c.in-Some-threshold_after.t) = search rules in
    rw means (search rules)
