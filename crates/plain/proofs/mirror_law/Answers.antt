use Rattle.plain.proofs.Mirrored.{mirror_law, openings_mirror}
use Rattle.plain.proofs.mirror_law.Goals as goal

pub returns : goal.returns
returns c = record { same = mirror_law; opening = openings_mirror }
