-- That what was answered is what the definitions have.
use Rattle.std.proofs.Common.{◌≡◌, ℕ, List, [], ◌∷◌, ◌++◌, map, ℤ, Some, None, Ok, Err, Option, Result, sym, refl, ap, ◌∙◌, inl, inr, append_assoc, append-nil, MatchResult}
use Rattle.std.specs.Option.{option_map}
use Rattle.faults.specs.declared.Fault.{Fault}
use Rattle.faults.specs.declared.Fault.TheVariants.{NoMemory}
use Rattle.faults.specs.Rows.{Row, row_of, Refused}
use Rattle.faults.proofs.Memory.{memory_row}
use Rattle.rules.specs.declared.mode.Mode.{Mode}
use Rattle.rules.specs.Meaning.{RuleMeaning}
use Rattle.lines.specs.Lines.{Placed, Seen, frame, lines_from}
use Rattle.lines.specs.Open.{first_rule, later_lines, open_fault}
use Rattle.plain.specs.declared.call.Answer.{Answer}
use Rattle.receiving.specs.Frames.{levels_fault, answers_with}
use Rattle.receiving.specs.Received.{or_refused, levels_text, frame_text, frames_text, seen_text, left_text, frames_by, received_text}
use Rattle.receiving.specs.Text.{answers_line, refused_line}

-- ---- one line
-- a fault that the table has, since want of memory gets no line
pub refused_line_lem : {X : Type 0} (r : Result X Fault) (bytes : X → List ℕ) (o : Option Row) (e : Fault) (text : List ℕ) → Refused o (row_of e) → MatchResult r (λ s. (bytes s ≡ refused_line (row_of e)) × (e ≡ NoMemory → ⊥)) (λ x. x ≡ NoMemory) → MatchResult r (λ s. bytes s ≡ or_refused o text) (λ x. x ≡ NoMemory)
refused_line_lem (Ok s) bytes o e text (inl is) h = h.0 ∙ ap (λ (p : Option Row). or_refused p text) (sym is)
refused_line_lem (Ok s) bytes o e text (inr none) h = absurd (h.1 (memory_row e none.1))
refused_line_lem (Err x) bytes o e text why h = h

pub levels_refused : (m : RuleMeaning Mode) (ys zs : List ℤ) (o : Option Row) (e : Fault) (t : List ℕ) → o ≡ None → ys ≡ zs → levels_fault ys ≡ Some e → t ≡ refused_line (row_of e) → t ≡ or_refused o (levels_text m zs)
levels_refused m ys zs o e t none same why is =
    is
    ∙ ap (λ (p : Option Fault). or_refused (option_map row_of p) (answers_line (answers_with m ys))) (sym why)
    ∙ ap (levels_text m) same
    ∙ ap (λ (p : Option Row). or_refused p (levels_text m zs)) (sym none)

pub levels_answered : (m : RuleMeaning Mode) (ys zs : List ℤ) (o : Option Row) (xs : List (Answer (List ℕ))) (t : List ℕ) → o ≡ None → ys ≡ zs → levels_fault ys ≡ None → xs ≡ answers_with m ys → t ≡ answers_line xs → t ≡ or_refused o (levels_text m zs)
levels_answered m ys zs o xs t none same ok answers is =
    is
    ∙ ap answers_line answers
    ∙ ap (λ (p : Option Fault). or_refused (option_map row_of p) (answers_line (answers_with m ys))) (sym ok)
    ∙ ap (levels_text m) same
    ∙ ap (λ (p : Option Row). or_refused p (levels_text m zs)) (sym none)

-- ---- line by line
pub lines_more : (m n : RuleMeaning Mode) (all done line more : List ℕ) (l : Seen) (before after : List Seen) → n ≡ m → done ++ left_text m before ≡ all → before ≡ l ∷ after → line ≡ seen_text n l → more ≡ done ++ line → more ++ left_text m after ≡ all
lines_more m n all done line more l before after same so_far first is appended =
    ap (λ (t : List ℕ). t ++ left_text m after) appended
    ∙ append_assoc done line (left_text m after)
    ∙ ap (λ (t : List ℕ). done ++ (t ++ left_text m after)) (is ∙ ap (λ (k : RuleMeaning Mode). seen_text k l) same)
    ∙ ap (λ (ls : List Seen). done ++ left_text m ls) (sym first)
    ∙ so_far

pub lines_end : (m : RuleMeaning Mode) (all done : List ℕ) (left : List Seen) → done ++ left_text m left ≡ all → left ≡ [] → done ≡ all
lines_end m all done left so_far none = sym (append-nil done) ∙ ap (λ (ls : List Seen). done ++ left_text m ls) (sym none) ∙ so_far

-- ---- the whole
frames_left : (m : RuleMeaning Mode) (ls : List Placed) → left_text m (map frame ls) ≡ frames_text m ls
frames_left m [] = refl
frames_left m (l ∷ ls) = ap (λ (t : List ℕ). frame_text m l ++ t) (frames_left m ls)

pub whole_text : (input t : List ℕ) (m : RuleMeaning Mode) (left : List Seen) → open_fault input ≡ None → first_rule (lines_from 0 input) ≡ Some m → left ≡ map frame (later_lines (lines_from 0 input)) → t ≡ left_text m left → t ≡ received_text input
whole_text input t m left opens rule lines is =
    is
    ∙ ap (left_text m) lines
    ∙ frames_left m (later_lines (lines_from 0 input))
    ∙ ap (λ (o : Option (RuleMeaning Mode)). frames_by o (later_lines (lines_from 0 input))) (sym rule)
    ∙ ap (λ (o : Option Row). or_refused o (frames_by (first_rule (lines_from 0 input)) (later_lines (lines_from 0 input)))) (sym opens)
