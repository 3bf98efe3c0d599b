-- The requests of a list of words from a place on, and what a loop over them has done and has left. Assumes nothing.
use Prim.Native.Nat.{ℕ, suc, ◌+◌, ◌-◌, ◌*◌, ◌/◌, ◌≤◌, ◌<◌}
use mathlib.Core.Path.{◌≡◌, refl, sym, ap, ap₂, ◌∙◌}
use mathlib.Core.List.{List, [], ◌∷◌}
use native.Mathlib.Omega.{arith}
use lib.Dec.{eqb}
use lib.ListN.{length, get_or, set, length-set}
use lib.Seq.{ext_get_or, get_or-set_same, get_or-set_other}
use borrow.Author.Tests.{eqb-true, eqb-false, le-leb, lt-leb}
use Rattle.bits.proofs.Truth.{by_truth, if_true, if_false}
use Rattle.bits.specs.Words.{tabulate}
use Rattle.bits.proofs.Tabulate.{length_tabulate, tabulate_cong}
use Rattle.requests.specs.Request.{Ask, Outcome, refuse}
use Rattle.machine.specs.Wall.{Event, trace, final}
use Rattle.machine.proofs.Tracing.{trace_none, trace_first, final_none, final_first}
use Rattle.labels.specs.Guard.{image_step}
use Rattle.simulation.specs.Run.{ask_at, serve_at, asks, flat}

-- ---- the requests from place i on

module _ (words : List ℕ) where
  abbrev n : ℕ
  n = length words / 4

  pub from : ℕ → List Ask
  from i = tabulate (n - i) (λ j. ask_at words (i + j))

  from_start : from 0 ≡ asks words
  unfolding from asks
  from_start = ap (λ (k : ℕ). tabulate k (λ j. ask_at words (0 + j))) (omega arith) ∙ tabulate_cong n (λ j h. ap (ask_at words) (omega arith))

  from_step : (i : ℕ) → i < n → from i ≡ ask_at words i ∷ from (i + 1)
  unfolding from tabulate
  from_step i h =
      ap (λ (k : ℕ). tabulate k (λ j. ask_at words (i + j))) (let z : n - i ≡ suc (n - (i + 1)) = omega arith in z)
      ∙ ap₂ (λ (q : Ask) (l : List Ask). q ∷ l) (ap (ask_at words) (omega arith))
      (tabulate_cong (n - (i + 1)) (λ j l. ap (ask_at words) (omega arith)))

  from_end : (i : ℕ) → n ≤ i → from i ≡ []
  unfolding from tabulate
  from_end i h = ap (λ (k : ℕ). tabulate k (λ j. ask_at words (i + j))) (let z : n - i ≡ 0 = omega arith in z)

-- two words for each reply
flat_length : (guard : List ℕ → Ask → Outcome (List ℕ)) (qs : List Ask) (t : List ℕ) → length (flat (trace guard t qs)) ≡ 2 * length qs
unfolding flat
flat_length guard [] t = ap (λ (es : List Event). length (flat es)) (trace_none guard t)
flat_length guard (q ∷ qs) t =
    let e = flat_length guard qs (guard t q).state in
    ap (λ (es : List Event). length (flat es)) (trace_first guard t q qs) ∙ omega arith

-- ---- a loop over the requests, with a guard

module _ (guard : List ℕ → Ask → Outcome (List ℕ)) (words t₀ : List ℕ) where
  -- the words of all replies
  abbrev whole : List ℕ
  whole = flat (trace guard t₀ (asks words))

  whole_length : length whole ≡ 2 * (length words / 4)
  unfolding asks
  whole_length = flat_length guard (asks words) t₀ ∙ ap (λ (k : ℕ). 2 * k) (length_tabulate (length words / 4) (ask_at words))

  pub record Serving (t out : List ℕ) (i : ℕ) : Type 0 where
    pub within : i ≤ length words / 4
    pub long : length out ≡ 2 * (length words / 4)
    pub same_length : length t ≡ length t₀
    pub written : (k : ℕ) → k < 2 * i → get_or out k 0 ≡ get_or whole k 0
    pub left : (j : ℕ) → get_or (flat (trace guard t (from words i))) j 0 ≡ get_or whole (2 * i + j) 0
    pub table : final guard t (from words i) ≡ final guard t₀ (asks words)

  pub serve_start : {out : List ℕ} → length out ≡ 2 * (length words / 4) → Serving t₀ out 0
  serve_start e = record {
    within = omega arith;
    long = e;
    same_length = refl;
    written = λ k h. absurd (omega arith);
    left = λ j. ap (λ (qs : List Ask). get_or (flat (trace guard t₀ qs)) j 0) (from_start words) ∙ ap (λ (k : ℕ). get_or whole k 0) (omega arith);
    table = ap (final guard t₀) (from_start words);
  }

  module _ {t out : List ℕ} {i : ℕ} (s : Serving t out i) where
    abbrev o : Outcome (List ℕ)
    o = guard t (ask_at words i)

    -- there is room for this reply
    pub second_place : (a : ℕ) → i < length words / 4 → 2 * i + 1 < length (set out (2 * i) a)
    second_place a h = let e = length-set out (2 * i) a in let r = s.long in omega arith

    -- the words of the replies that are left: this reply's two, and the others
    this : i < length words / 4 → flat (trace guard t (from words i)) ≡ o.answer ∷ o.spent ∷ flat (trace guard o.state (from words (i + 1)))
    unfolding flat
    this h = ap (λ (qs : List Ask). flat (trace guard t qs)) (from_step words i h) ∙ ap flat (trace_first guard t (ask_at words i) (from words (i + 1)))

    after : i < length words / 4 → final guard o.state (from words (i + 1)) ≡ final guard t₀ (asks words)
    after h = sym (ap (final guard t) (from_step words i h) ∙ final_first guard t (ask_at words i) (from words (i + 1))) ∙ s.table

    is_answer : i < length words / 4 → o.answer ≡ get_or whole (2 * i) 0
    is_answer h = sym (ap (λ (l : List ℕ). get_or l 0 0) (this h)) ∙ s.left 0 ∙ ap (λ (k : ℕ). get_or whole k 0) (omega arith)

    is_figure : i < length words / 4 → o.spent ≡ get_or whole (2 * i + 1) 0
    is_figure h = sym (ap (λ (l : List ℕ). get_or l 1 0) (this h)) ∙ s.left 1

    pub serve_step : {t' : List ℕ} {a f : ℕ} → i < length words / 4 → length t' ≡ length t → a ≡ o.answer → f ≡ o.spent → t' ≡ o.state
        → Serving t' (set (set out (2 * i) a) (2 * i + 1) f) (i + 1)
    serve_step {t'} {a} {f} h l ea ef et = record {
      within = omega arith;
      long = length-set (set out (2 * i) a) (2 * i + 1) f ∙ length-set out (2 * i) a ∙ s.long;
      same_length = l ∙ s.same_length;
      written = written;
      left = λ j.
          ap (λ (r : List ℕ). get_or (flat (trace guard r (from words (i + 1)))) j 0) et
          ∙ sym (ap (λ (r : List ℕ). get_or r (suc (suc j)) 0) (this h))
          ∙ s.left (suc (suc j))
          ∙ ap (λ (k : ℕ). get_or whole k 0) (omega arith);
      table = ap (λ (r : List ℕ). final guard r (from words (i + 1))) et ∙ after h;
    }
      where
        written : (k : ℕ) → k < 2 * (i + 1) → get_or (set (set out (2 * i) a) (2 * i + 1) f) k 0 ≡ get_or whole k 0
        written k b =
            by_truth (eqb k (2 * i + 1))
            (λ e.
            let z = eqb-true k (2 * i + 1) e in
            ap (λ (p : ℕ). get_or (set (set out (2 * i) a) (2 * i + 1) f) p 0) z
            ∙ get_or-set_same (set out (2 * i) a) (2 * i + 1) f 0 (let q = length-set out (2 * i) a in let r = s.long in omega arith)
            ∙ ef ∙ is_figure h ∙ sym (ap (λ (p : ℕ). get_or whole p 0) z))
            (λ e.
            get_or-set_other (set out (2 * i) a) (2 * i + 1) k f 0 (eqb-false k (2 * i + 1) e)
            ∙ by_truth (eqb k (2 * i))
            (λ d.
            let z = eqb-true k (2 * i) d in
            ap (λ (p : ℕ). get_or (set out (2 * i) a) p 0) z
            ∙ get_or-set_same out (2 * i) a 0 (let r = s.long in omega arith)
            ∙ ea ∙ is_answer h ∙ sym (ap (λ (p : ℕ). get_or whole p 0) z))
            (λ d.
            let n = eqb-false k (2 * i) d in
            let m = eqb-false k (2 * i + 1) e in
            get_or-set_other out (2 * i) k a 0 n ∙ s.written k (omega arith)))

    pub served_table : length words / 4 ≤ i → t ≡ final guard t₀ (asks words)
    served_table h = sym (ap (final guard t) (from_end words i h) ∙ final_none guard t) ∙ s.table

    pub served_replies : length words / 4 ≤ i → out ≡ whole
    served_replies h =
        ext_get_or 0 out whole (s.long ∙ sym whole_length)
        (λ k l. s.written k (let q = s.long in omega arith))

-- ---- the request at one place

module _ (t words : List ℕ) (i : ℕ) where
  pub serve_past : length words / 4 ≤ i → serve_at t words i ≡ refuse 18 t
  unfolding serve_at
  serve_past h = if_true _ _ (le-leb (length words / 4) i h)

  pub serve_here : i < length words / 4 → serve_at t words i ≡ image_step t (ask_at words i)
  unfolding serve_at
  serve_here h = if_false _ _ (lt-leb (length words / 4) i h)
