-- A list of calls on its way: what is answered, and what is left to answer.
use Rattle.std.proofs.Common.{◌≡◌, ℕ, ◌+◌, ◌<◌, ◌≤◌, List, [], ◌∷◌, ◌++◌, length, get_or, drop, ℤ, sym, ap, ◌∙◌, append_assoc, append-nil}
use Rattle.std.proofs.lemmas.List.{drop_more, drop_all}
use Rattle.codes.specs.Answers.{Answers}
use Rattle.rules.specs.Meaning.{RuleMeaning}
use Rattle.plain.specs.declared.call.Answer.{Answer}
use Rattle.plain.specs.declared.call.Call.{Call}
use Rattle.decoder.specs.Memory.{Held, Reply, reply, step_in, held_after, answers_in, Performed}

module _ {S : Type 0} (m : RuleMeaning S) (noise : ℕ → ℕ → ℤ) (a : Answers) (cs : List Call) (start : Held S) where
  -- after i calls the answers are `done`, and the rest goes on from `now`
  pub record Going (i : ℕ) (done : List (Answer (List ℕ))) (now : Held S) : Type 0 where
    pub answered : done ++ answers_in m noise a (drop i cs) now ≡ answers_in m noise a cs start
    pub led : held_after m noise a (drop i cs) now ≡ held_after m noise a cs start

  -- one call more; the rule's meaning may go by another name
  pub going_on : (i : ℕ) (done : List (Answer (List ℕ))) (now : Held S) (d : Call) → Going i done now → i < length cs → (o : RuleMeaning S) → o ≡ m → (x : Answer (List ℕ)) (done' : List (Answer (List ℕ))) (next : Held S) → reply x next ≡ step_in o noise a (get_or cs i d) now → done' ≡ done ++ (x ∷ []) → Going (i + 1) done' next
  going_on i done now d g h o same x done' next replied more =
      let c : Call = get_or cs i d in
      let left : drop i cs ≡ c ∷ drop (i + 1) cs = drop_more cs i d h in
      let is : reply x next ≡ step_in m noise a c now = replied ∙ ap (λ (v : RuleMeaning S). step_in v noise a c now) same in
      let answer : x ≡ (step_in m noise a c now).answer = ap (λ (r : Reply S). r.answer) is in
      let after : next ≡ (step_in m noise a c now).held = ap (λ (r : Reply S). r.held) is in
      record {
        answered =
            ap (λ (l : List (Answer (List ℕ))). l ++ answers_in m noise a (drop (i + 1) cs) next) more
            ∙ append_assoc done _ _
            ∙ ap (λ (y : Answer (List ℕ)). done ++ (y ∷ answers_in m noise a (drop (i + 1) cs) next)) answer
            ∙ ap (λ (n : Held S). done ++ ((step_in m noise a c now).answer ∷ answers_in m noise a (drop (i + 1) cs) n)) after
            ∙ ap (λ (l : List Call). done ++ answers_in m noise a l now) (sym left)
            ∙ g.answered;
        led =
            ap (held_after m noise a (drop (i + 1) cs)) after
            ∙ ap (λ (l : List Call). held_after m noise a l now) (sym left)
            ∙ g.led;
      }

  pub going_all : (i : ℕ) (done : List (Answer (List ℕ))) (now : Held S) → Going i done now → length cs ≤ i → Performed m noise a cs start done now
  going_all i done now g h =
      let none_left : drop i cs ≡ [] = drop_all i cs h in
      record {
        answered = sym (append-nil done) ∙ ap (λ (l : List Call). done ++ answers_in m noise a l now) (sym none_left) ∙ g.answered;
        led = ap (λ (l : List Call). held_after m noise a l now) (sym none_left) ∙ g.led;
      }
