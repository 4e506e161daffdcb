-- What a listed code answers. Assumes nothing.
use Rattle.codes.specs.Answers.{Answers}
use Rattle.codes.specs.Means.{matrix_of}
use Rattle.listed.specs.declared.Listed.{Listed}

abbrev pub listed_of : Listed → Answers
listed_of l = matrix_of l.matrix
