-- Laws of traces and of the state after a list of requests, for any guard. Assumes nothing.
use mathlib.Core.Path.{◌≡◌, refl, ap, ◌∙◌}
use mathlib.Core.List.{List, [], ◌∷◌, ◌++◌}
use Rattle.requests.specs.Request.{Ask, Outcome}
use Rattle.machine.specs.Wall.{Event, trace, final}

-- a request and what it came to
abbrev pub event : {S : Type 0} → Ask → Outcome S → Event
event q o = record { asked = q; answer = o.answer; spent = o.spent }

module _ {S : Type 0} (f : S → Ask → Outcome S) where
  pub trace_first : (s : S) (q : Ask) (qs : List Ask) → trace f s (q ∷ qs) ≡ event q (f s q) ∷ trace f (f s q).state qs
  unfolding trace
  trace_first s q qs = refl

  pub trace_none : (s : S) → trace f s [] ≡ []
  unfolding trace
  trace_none s = refl

  pub final_first : (s : S) (q : Ask) (qs : List Ask) → final f s (q ∷ qs) ≡ final f (f s q).state qs
  unfolding final
  final_first s q qs = refl

  pub final_none : (s : S) → final f s [] ≡ s
  unfolding final
  final_none s = refl

  pub final_last : (qs : List Ask) (q : Ask) (s : S) → final f s (qs ++ (q ∷ [])) ≡ (f (final f s qs) q).state
  unfolding final
  final_last [] q s = refl
  final_last (p ∷ qs) q s = final_last qs q (f s p).state

  -- what holds at first, and after a request where it held before, holds after the last
  pub final_keeps : (P : S → Type 0) → ((s : S) → P s → (q : Ask) → P (f s q).state) → (qs : List Ask) (s : S) → P s → P (final f s qs)
  unfolding final
  final_keeps P k [] s p = p
  final_keeps P k (q ∷ qs) s p = final_keeps P k qs (f s q).state (k s p q)

-- a guard that does with the image of a state what the other does with the state, as long as P holds
module _ {S T : Type 0} (f : S → Ask → Outcome S) (g : T → Ask → Outcome T) (image : T → S) (P : T → Type 0)
    (keeps : (m : T) → P m → (q : Ask) → P (g m q).state)
    (same : (m : T) → P m → (q : Ask) → f (image m) q ≡ record { answer = (g m q).answer; spent = (g m q).spent; state = image (g m q).state }) where
  pub trace_same : (qs : List Ask) (m : T) → P m → trace f (image m) qs ≡ trace g m qs
  unfolding trace
  trace_same [] m p = refl
  trace_same (q ∷ qs) m p =
      ap (λ (o : Outcome S). event q o ∷ trace f o.state qs) (same m p q)
      ∙ ap (λ (l : List Event). event q (g m q) ∷ l) (trace_same qs (g m q).state (keeps m p q))

  pub final_same : (qs : List Ask) (m : T) → P m → final f (image m) qs ≡ image (final g m qs)
  unfolding final
  final_same [] m p = refl
  final_same (q ∷ qs) m p =
      ap (λ (o : Outcome S). final f o.state qs) (same m p q) ∙ final_same qs (g m q).state (keeps m p q)
