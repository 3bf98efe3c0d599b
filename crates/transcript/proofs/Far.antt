-- What the code has done when its loop is at a place of the block. Assumes nothing.
use Prim.Native.Nat.{ℕ, suc, ◌+◌, ◌-◌, ◌≤◌, ◌<◌}
use mathlib.Core.Path.{◌≡◌, refl, sym, ap, ap₂, ◌∙◌}
use mathlib.Core.Bool.{true, false}
use mathlib.Core.List.{List, [], ◌++◌, append-nil}
use native.Mathlib.Omega.{arith}
use lib.ListN.{length, drop, length-drop, length-append, drop_of_length-le}
use lib.Seq.{sets, drop-drop}
use Rattle.requests.specs.Request.{Outcome}
use Rattle.reader.specs.Reader.{finished}
use Rattle.std.specs.Prelude.{Option}
use Rattle.reader.specs.declared.Line.{Line}
use Rattle.reader.specs.declared.Reader.{Reader}
use Rattle.reader.specs.declared.Reader.TheVariants.{Letters}
use Rattle.lines.specs.Blocks.{fed}
use Rattle.lines.specs.declared.Fed.{Fed}
use Rattle.output.specs.Text.{row, fitting, Wrote}
use Rattle.output.proofs.Writing.{length_row, wrote_row, sets_append}
use Rattle.ledger.specs.Store.{Store}
use Rattle.ledger.specs.Step.{Guards, outcome, step}
use Rattle.transcript.specs.Stream.{Standing, reading, replied, reply, Stop, halt, ahead, full, serving, IsServed}
use Rattle.transcript.proofs.Serving.{ahead_more, room_left, serving_full, serving_open, serving_used, fed_used, Ends, serving_line}

-- ---- how far the loop has come: p stands before byte i of the block, and o bytes of out are written

pub record Far (G : Guards) (stop : Stop) (out₀ : List ℕ) (p : Standing) (block : List ℕ) (i : ℕ) (out : List ℕ) (o : ℕ) : Type 0 where
  pub written : List ℕ
  pub out_is : out ≡ sets out₀ 0 written
  pub used_is : o ≡ length written
  pub inside : i ≤ length block
  pub room : o ≤ length out
  pub rest : stop ≡ ahead i written (serving G (length out - o) true p (drop i block))

pub far_start : (G : Guards) (p : Standing) (block out : List ℕ) → Far G (serving G (length out) true p block) out p block 0 out 0
far_start G p block out = record {
  written = [];
  out_is = refl;
  used_is = refl;
  inside = omega arith;
  room = omega arith;
  rest = ap (λ (n : ℕ). serving G n true p block) (omega arith) ∙ recount_none (serving G (length out - 0) true p block);
}
  where
    recount_none : (s : Stop) → s ≡ ahead 0 [] s
    recount_none s = ap (λ (n : ℕ). record { stands = s.stands; read = n; wrote = s.wrote }) (omega arith)

module _ {G : Guards} {stop : Stop} {out₀ : List ℕ} {p : Standing} (block : List ℕ) (i : ℕ) {out : List ℕ} {o : ℕ} (far : Far G stop out₀ p block i out o) where
  -- what is left of the block comes to a stop at which nothing more is written
  stopped_at : {next : ℕ} (t : Stop) → serving G (length out - o) true p (drop i block) ≡ t → t.wrote ≡ [] → next ≡ i + t.read → next ≤ length block → IsServed stop block out₀ t.stands next o out
  stopped_at t h none n b =
      let e = far.rest ∙ ap (ahead i far.written) h in
      let w = ap (λ (s : Stop). s.wrote) e ∙ ap (λ (l : List ℕ). far.written ++ l) none ∙ append-nil far.written in
      record {
        stands_is = sym (ap (λ (s : Stop). s.stands) e);
        read_is = n ∙ sym (ap (λ (s : Stop). s.read) e);
        written_is = far.used_is ∙ ap length (sym w);
        out_is = far.out_is ∙ ap (sets out₀ 0) (sym w);
        read_within = b;
        written_within = far.room;
      }

  halted : serving G (length out - o) true p (drop i block) ≡ halt p → IsServed stop block out₀ p i o out
  halted h = stopped_at (halt p) h refl (omega arith) far.inside

  pub far_full : full (length out - o) p.number ≡ true → IsServed stop block out₀ p i o out
  far_full h = halted (serving_full G _ p (drop i block) h)

  pub far_end : length block ≤ i → IsServed stop block out₀ p i o out
  unfolding serving
  far_end h = halted (rw (drop_of_length-le block h))

  module _ (free : full (length out - o) p.number ≡ false) where
    opened : serving G (length out - o) true p (drop i block) ≡ serving G (length out - o) false p (drop i block)
    opened = serving_open G _ p (drop i block) free

    -- the block is used up
    pub far_used : {f : Fed} → f ≡ fed p.reader (drop i block) i → f.whole ≡ false → IsServed stop block out₀ (reading p f.reader) f.next o out
    far_used {f} g h =
        let same : (fed p.reader (drop i block) i).whole ≡ false = sym (ap (λ (u : Fed). u.whole) g) ∙ h in
        let cut = serving_used G (length out - o) p (drop i block) i same in
        let next = ap (λ (u : Fed). u.next) g ∙ fed_used p.reader (drop i block) i same in
        stopped_at
        (record { stands = reading p f.reader; read = length (drop i block); wrote = [] })
        (opened ∙ cut ∙ ap (λ (u : Fed). record { stands = reading p u.reader; read = length (drop i block); wrote = [] }) (sym g))
        refl next (omega (arith, next, length-drop i block, far.inside))

    -- a line ends in the block
    line_ends : {f : Fed} → f ≡ fed p.reader (drop i block) i → f.whole ≡ true
        → Ends G (length out - o) (serving G (length out - o) false p (drop i block)) p (drop i block) i f.reader f.next
    line_ends {f} g h =
        let here = serving_line G (length out - o) p (drop i block) i (sym (ap (λ (u : Fed). u.whole) g) ∙ h) in
        rw g here

    -- the next line starts behind this one, in the block
    pub far_next : {f : Fed} → f ≡ fed p.reader (drop i block) i → f.whole ≡ true → (i < f.next) × (f.next ≤ length block)
    far_next {f} g h =
        let w = line_ends g h in
        let left : suc w.0 ≤ length block - i = rw (length-drop i block) at w.2 in
        (omega (arith, w.1), omega (arith, w.1, left, far.inside))

    -- a line ends, and its row is written
    pub far_row : {u : Fed} {line : Option Line} {a n : ℕ} {d : Store} {r : Reader} {out' : List ℕ} {o' : ℕ}
        → u ≡ fed p.reader (drop i block) i → u.whole ≡ true → line ≡ finished u.reader → outcome a n d ≡ step G p.kept line → r ≡ Letters 0
        → Wrote out o (fitting out o (row p.number a n)) out' o' → length out' ≡ length out
        → Far G stop out₀ (record { kept = d; number = p.number + 1; reader = r }) block u.next out' o'
    far_row {u} {line} {a} {n} {d} {r} {out'} {o'} g h e c f w k =
        let s = u.reader in
        let next = u.next in
        let x = line_ends g h in
        let came : outcome a n d ≡ step G p.kept (finished s) = c ∙ ap (step G p.kept) e in
        let stood : replied G p s ≡ record { kept = d; number = p.number + 1; reader = r } =
        ap₂ (λ (u : Outcome Store) (q : Reader). record { kept = u.state; number = p.number + 1; reader = q }) (sym came) (sym f) in
        let left : drop (suc x.0) (drop i block) ≡ drop next block = drop-drop (suc x.0) i block ∙ ap (λ (m : ℕ). drop m block) (sym x.1) in
        let shown : reply G p s ≡ row p.number a n = ap (λ (u : Outcome Store). row p.number u.answer u.spent) (sym came) in
        let space = room_left _ _ free in
        let put = wrote_row out o (row p.number a n) out' o' (omega arith) w in
        let short = length_row p.number a n in
        let size : o' ≡ o + length (row p.number a n) = put.next_is in
        let there : length out - o - length (reply G p s) ≡ length out' - o' = ap (λ (m : List ℕ). length out - o - length m) shown ∙ omega (arith, size, k) in
        let q : Standing = record { kept = d; number = p.number + 1; reader = r } in
        record {
          written = far.written ++ row p.number a n;
          out_is = put.result_is ∙ ap₂ (λ (m : List ℕ) (j : ℕ). sets m j (row p.number a n)) far.out_is (far.used_is ∙ omega arith)
              ∙ sym (sets_append out₀ 0 far.written (row p.number a n));
          used_is = size ∙ ap (λ (j : ℕ). j + length (row p.number a n)) far.used_is ∙ sym (length-append far.written (row p.number a n));
          inside = (far_next g h).1;
          room = omega (arith, size, k, short, far.room);
          rest = far.rest ∙ ap (ahead i far.written) (opened ∙ x.3 ∙ moved_on (suc x.0) shown there stood left)
              ∙ ahead_more i (suc x.0) far.written (row p.number a n) (serving G (length out' - o') true q (drop next block))
              ∙ ap (λ (k : ℕ). ahead k (far.written ++ row p.number a n) (serving G (length out' - o') true q (drop next block))) (sym x.1);
        }
      where
        moved_on : (j : ℕ) {w v : List ℕ} {m u : ℕ} {p' q : Standing} {l l' : List ℕ} → w ≡ v → m ≡ u → p' ≡ q → l ≡ l'
            → ahead j w (serving G m true p' l) ≡ ahead j v (serving G u true q l')
        moved_on j e f g h = rw (e, f, g, h)
