-- What is as the definitions have it is exact.
use Rattle.std.proofs.Common.{◌≡◌, ℕ, List, length, ℤ, None, sym, subst}
use Rattle.codes.specs.Answers.{Answers}
use Rattle.noise.specs.Sources.{Lawful}
use Rattle.rules.specs.Meaning.{RuleMeaning}
use Rattle.plain.specs.declared.call.Answer.{Answer}
use Rattle.plain.specs.declared.call.Call.{Call}
use Rattle.engine.specs.declared.bit.Bit.{Bit}
use Rattle.engine.specs.declared.bit.Sign.{Sign}
use Rattle.decoder.specs.declared.frame.Frame.{Frame}
use Rattle.decoder.specs.Memory.{Core, Held, Reply, Said, step_in, toggled_in, weighed_in, unmet_in, read_in}
use Rattle.decoder.specs.Openings.{open_fault, opened_in, OpenedExactly}
use Rattle.decoder.specs.Standing.{StepsExactly, TogglesExactly, WeighsExactly, CountsExactly, ReadsExactly}
use Rattle.decoder.proofs.Opened.{open_exact}
use Rattle.decoder.proofs.Stepping.{toggle_exact, weigh_exact, unmet_exact, read_exact, step_exact}

pub step_from : {S : Type 0} (a : Answers) (m : RuleMeaning S) (noise : ℕ → ℕ → ℤ) → Lawful noise → (c : Call) (h : Held S) (r : Reply S) → r ≡ step_in m noise a c h → StepsExactly a m noise c h r
step_from a m noise law c h r is = subst (StepsExactly a m noise c h) (sym is) (step_exact a m noise law c h)

pub toggle_from : (a : Answers) (k : ℕ) (c : Core) (r : Said) → r ≡ toggled_in a k c → TogglesExactly a k c r
toggle_from a k c r is = subst (TogglesExactly a k c) (sym is) (toggle_exact a k c)

pub weigh_from : (k : ℕ) (f : Frame) (rs : List Bit) (x : Answer (List ℕ)) → x ≡ weighed_in k f rs → WeighsExactly k f rs x
weigh_from k f rs x is = subst (WeighsExactly k f rs) (sym is) (weigh_exact k f rs)

pub unmet_from : (f : Frame) (ss : List Sign) (x : Answer (List ℕ)) → x ≡ unmet_in f ss → CountsExactly f ss x
unmet_from f ss x is = subst (CountsExactly f ss) (sym is) (unmet_exact f ss)

pub read_from : (n : ℕ) (f : Frame) (rs : List Bit) (x : Answer (List ℕ)) → x ≡ read_in n f rs → ReadsExactly n f rs x
read_from n f rs x is = subst (ReadsExactly n f rs) (sym is) (read_exact n f rs)

pub open_from : {S : Type 0} (a : Answers) (m : RuleMeaning S) (ys : List ℤ) (w limit : ℕ) (rs : List Bit) (ss : List Sign) (h : Held S) → open_fault a ys w limit (length rs) (length ss) ≡ None → h ≡ opened_in m a ys w limit rs ss → OpenedExactly a m ys w limit h
open_from a m ys w limit rs ss h ok is = subst (OpenedExactly a m ys w limit) (sym is) (open_exact a m ys w limit rs ss ok)
