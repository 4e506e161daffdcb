-- What the seven-bit code answers. Assumes nothing.
use Rattle.codes.specs.Answers.{Answers}
use Rattle.listed.specs.Means.{listed_of}
use Rattle.seven.specs.declared.Seven.{Seven}

abbrev pub seven_of : Seven → Answers
seven_of s = listed_of s.listed
