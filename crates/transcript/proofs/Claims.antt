-- The claims of specs/Claims.antt. Assumes nothing.
use Prim.Native.Nat.{ℕ}
use mathlib.Core.Path.{◌≡◌, refl, sym, ap, ap₂, ◌∙◌}
use mathlib.Core.Bool.{true}
use mathlib.Core.Logic.{⊎_elim}
use mathlib.Core.List.Memᴰ
use mathlib.Core.List.{List, [], ◌∷◌, ◌++◌, append_assoc, Memᴰ}
use native.Mathlib.Omega.{arith}
use lib.ListN.{drop}
use Rattle.std.specs.Prelude.{Option}
use Rattle.bits.specs.Words.{tabulate}
use Rattle.table.specs.Table.{table_length, is_table}
use Rattle.table.proofs.Table.{is_table_lem}
use Rattle.bits.proofs.Tabulate.{length_tabulate, get_d_tabulate}
use Rattle.image.specs.SetUp.{are_labels}
use Rattle.reader.specs.declared.Reader.TheVariants.{Letters}
use Rattle.reader.proofs.Resume.{steps_none}
use Rattle.reader.specs.declared.Line.{Line}
use Rattle.output.specs.Text.{header}
use Rattle.entries.specs.declared.Phase.TheVariants.{Opening}
use Rattle.ledger.specs.Store.{Store, store, with_table}
use Rattle.ledger.specs.Step.{guarded, unguarded, step}
use Rattle.ledger.specs.Claims.{StoreSound, shows, Proper}
use Rattle.ledger.proofs.Claims.{opening_sound, stays_sound}
use Rattle.ledger.proofs.Showing.{labels_intro, line_shows}
use Rattle.ledger.proofs.Contents.{SameIn, line_matches}
use Rattle.transcript.specs.declared.Progress.{Progress}
use Rattle.transcript.specs.Stream.{Standing, started, after, emitted, closing, serving}
use Rattle.transcript.specs.Document.{Result, lines_of, results, rows, blank, replies, output}
use Rattle.transcript.specs.Claims.{begun, OutputIs, Calls, none, call, GetsOn, BlocksDoNotMatter, NeverShown, SoundForGood}
use Rattle.transcript.proofs.Serving.{not_full, serving_reads}
use Rattle.transcript.proofs.Pieces.{after_append, emitted_append, serving_splits}
use Rattle.transcript.proofs.Whole.{written_is}
use Rattle.transcript.proofs.Guarding.{agrees}

-- ---- the start

-- a table of zeros
abbrev zeros : List ℕ
zeros = tabulate table_length (λ i. 0)

zeros_table : is_table zeros ≡ true
zeros_table = is_table_lem zeros (length_tabulate table_length (λ i. 0))

blank_sound : (table : List ℕ) → StoreSound (blank table)
unfolding blank
blank_sound table = opening_sound table

-- what the program starts from
pub begun_is : {p : Progress} {table juniors permissions clearances labels : List ℕ} → p ≡ started → table ≡ zeros → juniors ≡ tabulate 64 (λ r. 0)
    → permissions ≡ tabulate 8 (λ x. 0) → clearances ≡ tabulate 64 (λ u. 0) → labels ≡ tabulate 64 (λ o. 0)
    → record { kept = store Opening table juniors permissions clearances labels; number = p.number; reader = p.reader } ≡ begun zeros
unfolding blank
begun_is s t j p c l = rw (s, t, j, p, c, l)

-- zeros are labels
zeros_labels : are_labels (tabulate 64 (λ i. 0)) ≡ true
zeros_labels = labels_intro _ (λ i h. rw (get_d_tabulate {A = ℕ} 64 (λ i. 0) 0 i h) (omega arith))

blank_proper : Proper (blank zeros)
unfolding blank
blank_proper = record {
  table = zeros_table;
  juniors = length_tabulate 64 _;
  permissions = length_tabulate 8 _;
  clearances = length_tabulate 64 _;
  labels = length_tabulate 64 _;
  clearances_known = zeros_labels;
  labels_known = zeros_labels;
}

-- ---- the output

-- lines show the same of two stores that differ in the old contents of the table alone
results_same : (d : Store) (u : List ℕ) (ls : List (Option Line)) → SameIn d.phase d.table u → results d ls ≡ results (with_table d u) ls
unfolding results
results_same d u [] h = refl
results_same d u (l ∷ ls) h =
    let m = line_matches d u l h in
    let next = (step guarded (with_table d u) l).state in
    ap₂ ◌∷◌ (ap₂ (λ (a n : ℕ). record { answer = a; spent = n }) m.answers m.spends)
    (results_same (step guarded d l).state next.table ls m.tables ∙ ap (λ (e : Store). results e ls) (sym m.stores))

pub output_is : OutputIs
unfolding output replies blank
output_is table l h =
    let a = agrees (begun table) l (blank_sound table) in
    ap₂ (λ (s : Standing) (w : List ℕ). header ++ w ++ closing s.number s.reader) a.0 a.1
    ∙ append_assoc header _ _
    ∙ ap (λ (w : List ℕ). header ++ w)
    (rw (steps_none (Letters 0)) at (written_is (blank table) 1 [] l) ∙ ap (rows 1) (results_same (blank table) zeros (lines_of [] l) (h ∙ sym zeros_table)))

-- ---- blocks

-- calls write what their whole input writes, and end where it ends
called : {p q : Standing} {l written : List ℕ} → Calls p l written q → (after unguarded p l ≡ q) × (emitted unguarded p l ≡ written)
unfolding after emitted
called (none p) = (refl, refl)
called (call {p} {q} {written} block more room c) =
    let ih = called c in
    let s = serving_splits unguarded room true p block in
    let left = drop (serving unguarded room true p block).read block in
    let there = (serving unguarded room true p block).stands in (
      after_append unguarded p block more ∙ ap (λ (x : Standing). after unguarded x more) s.0 ∙ sym (after_append unguarded there left more) ∙ ih.0,
      emitted_append unguarded p block more ∙ ap₂ (λ (w : List ℕ) (x : Standing). w ++ emitted unguarded x more) s.1 s.0
          ∙ append_assoc (serving unguarded room true p block).wrote _ _
          ∙ ap (λ (w : List ℕ). (serving unguarded room true p block).wrote ++ w) (sym (emitted_append unguarded there left more) ∙ ih.1),
    )

pub blocks_do_not_matter : BlocksDoNotMatter
blocks_do_not_matter table l written q h c =
    let a = called c in
    ap₂ (λ (s : Standing) (w : List ℕ). header ++ w ++ closing s.number s.reader) (sym a.0) (sym a.1) ∙ output_is table l h

-- ---- what is shown, and what is sound

results_show : (d : Store) (ls : List (Option Line)) (r : Result) → StoreSound d → Proper d → Memᴰ r (results d ls) → shows r.answer ≡ true
unfolding results
results_show d [] r s p m = absurd (Memᴰ.not-nil m)
results_show d (l ∷ ls) r s p m =
    let k = line_shows d l s p in
    ⊎_elim (λ e. ap (λ (x : Result). shows x.answer) e ∙ k.0)
    (λ n. results_show (step guarded d l).state ls r (stays_sound d l s) k.1 n)
    (Memᴰ.cases_cons m)

pub never_shown : NeverShown
unfolding replies
never_shown l r m = results_show (blank zeros) (lines_of [] l) r (blank_sound zeros) blank_proper m

pub sound_for_good : SoundForGood
sound_for_good table l =
    let a = agrees (begun table) l (blank_sound table) in
    rw a.0 a.2

pub gets_on : GetsOn
gets_on room p b block r n = serving_reads unguarded room p b block (not_full room p.number r (λ e. omega arith))
