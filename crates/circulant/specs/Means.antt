-- What a circulant code answers. Assumes nothing.
use Rattle.codes.specs.Answers.{Answers}
use Rattle.codes.specs.Means.{matrix_of}
use Rattle.circulant.specs.declared.Circulant.{Circulant}

abbrev pub circulant_of : Circulant → Answers
circulant_of c = matrix_of c.matrix
