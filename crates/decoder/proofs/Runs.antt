-- What holds after every list of calls on an opened frame.
use Rattle.std.proofs.Common.{◌≡◌, ℕ, List, length, ℤ, ◌-ℤ◌, None, Ok, sym, refl, ◌∙◌, subst}
use lib.Ieee.{Float}
use Rattle.codes.specs.Answers.{Answers}
use Rattle.noise.specs.Sources.{Lawful as LawfulNoise}
use Rattle.rules.specs.Meaning.{RuleMeaning}
use Rattle.plain.specs.declared.call.Answer.{Answer}
use Rattle.plain.specs.declared.call.Call.{Call}
use Rattle.plain.specs.Machine.{opened, state_after}
use Rattle.plain.proofs.Ending.{verdict_law}
use Rattle.plain.proofs.Gaining.{gain_law}
use Rattle.plain.proofs.Picking.{picks_at}
use Rattle.engine.specs.declared.bit.Bit.{Bit}
use Rattle.engine.specs.declared.bit.Sign.{Sign}
use Rattle.decoder.specs.declared.replaying.Replayed.{Replayed}
use Rattle.decoder.specs.Memory.{Held, held_after, answers_in}
use Rattle.decoder.specs.Openings.{open_fault, opened_in}
use Rattle.decoder.specs.Replays.{frame_of, answers_of_replay, RunsExactly, Given, Lent, levels_from, opening_of, Replays, ExactOutcome}
use Rattle.decoder.proofs.Opened.{open_exact}
use Rattle.decoder.proofs.Stepping.{run_exact}

pub run_laws : {S : Type 0} (a : Answers) (m : RuleMeaning S) (noise : ℕ → ℕ → ℤ) → LawfulNoise noise → (ys : List ℤ) (w limit : ℕ) (rs : List Bit) (ss : List Sign) → open_fault a ys w limit (length rs) (length ss) ≡ None → (cs : List Call) → RunsExactly a m noise ys w limit cs (answers_in m noise a cs (opened_in m a ys w limit rs ss)) (held_after m noise a cs (opened_in m a ys w limit rs ss))
run_laws {S} a m noise law ys w limit rs ss ok cs p lawful =
    let f = frame_of p ys w limit m noise in
    let h = opened_in m a ys w limit rs ss in
    let opening = open_exact a m ys w limit rs ss ok f refl refl lawful (λ c l. refl) (λ k l. refl) in
    let R = run_exact a m noise law cs f (opened f) h refl refl opening in
    let K = R.1.core in
    record {
      answered = R.0;
      stands = R.1;
      gain = (λ i. K.computed.computed i -ℤ K.opening i) ∙ gain_law S f cs;
      picks = λ before after e. picks_at f (state_after f before (opened f));
      verdicts = λ before after e. verdict_law S f before;
    }

-- a replay that performed its calls
pub replay_from : {S : Type 0} (t : Given) (m : RuleMeaning S) (noise : ℕ → ℕ → ℤ) → LawfulNoise noise → (xs : List Float) (before after : Lent S) (d : Replayed) → Replays t m noise xs before after d → ExactOutcome t m noise xs after (Ok d)
replay_from {S} t m noise law xs before after d r =
    let ran = run_laws t.code m noise law (levels_from t xs) t.weight t.limit before.records before.signs r.allowed t.calls in
    subst (λ (h : Held S). RunsExactly t.code m noise (levels_from t xs) t.weight t.limit t.calls (answers_of_replay d) h) (sym r.performed.led)
    (subst (λ (l : List (Answer (List ℕ))). RunsExactly t.code m noise (levels_from t xs) t.weight t.limit t.calls l (held_after m noise t.code t.calls (opening_of t m xs before))) (sym r.performed.answered) ran)
