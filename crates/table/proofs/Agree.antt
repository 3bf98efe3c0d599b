-- States that agree on the users, roles, objects, sessions and modes that there are: what is said of one is said of the
-- other. Assumes nothing.
use Prim.Native.Nat.{ℕ, ◌+◌, ◌-◌, ◌*◌, ◌≤◌, ◌<◌}
use mathlib.Core.Path.{◌≡◌, refl, sym, ap, ap₂, subst, ◌∙◌}
use mathlib.Core.Bool.{Bool}
use mathlib.Core.List.{List}
use native.Mathlib.Omega.{arith}
use lib.ListN.{get_or}
use lib.Dec.{eqb}
use borrow.Author.Tests.{eqb-false}
use Rattle.bits.specs.Words.{◌and◌, upd, has}
use Rattle.bits.specs.Sets.{some}
use Rattle.bits.proofs.Truth.{by_truth, same_truth}
use Rattle.bits.proofs.Word.{pack_cong}
use Rattle.bits.proofs.Membership.{some_cong}
use Rattle.bits.proofs.Tabulate.{tabulate_cong}
use Rattle.closure.specs.Closure.{closure}
use Rattle.table.specs.State.{State}
use Rattle.table.specs.Authority.{senior, permission, idle, user, covers, authorised, may_activate, effective}
use Rattle.table.specs.Changes.{set_assigned, set_granted, set_owner, set_active, set_holds, set_sets, set_seniority, set_masks, with_assigned, with_granted, with_owner, with_active, with_holds, with_set, with_direct, with_masks}
use Rattle.table.specs.Seniority.{Linked}
use Rattle.table.specs.Separation.{separated, Separated}
use Rattle.table.specs.Masks.{mask_of, refreshed, MasksTrue}
use Rattle.table.specs.Sound.{ruled, sound, Ruled}
use Rattle.table.proofs.State.{may_activate_idle, may_activate_busy}
use Rattle.table.proofs.Seniority.{linked_closure, linked_agree}
use Rattle.table.proofs.Separation.{separated_elim, separated_intro, separated_less}
use Rattle.table.proofs.Sound.{ruled_elim, ruled_intro, sound_ruled, sound_masks, sound_intro}
use Rattle.bits.proofs.Upd.{row_agree, grid_agree}
use Rattle.table.proofs.Encode.{encode_cong, agreed}
pub use Rattle.bits.proofs.Upd.{upd_same, upd_other, by_upd, upd_own, grid_same, by_grid, upd_agree}
pub use Rattle.table.proofs.Encode.{Agree}

pub agree_refl : (S : State) → Agree S S
agree_refl S = agreed refl

pub agree_sym : {S S' : State} → Agree S S' → Agree S' S
agree_sym a = agreed (sym (encode_cong a))

pub agree_trans : {S S' S'' : State} → Agree S S' → Agree S' S'' → Agree S S''
agree_trans a b = agreed (encode_cong a ∙ encode_cong b)

-- a section replaced by words that agree, in states that agree
module _ {S S' : State} (a : Agree S S') where
  pub agree_set_assigned : {f g : ℕ → ℕ} → ((u : ℕ) → u < 64 → f u ≡ g u) → Agree (set_assigned S f) (set_assigned S' g)
  agree_set_assigned e = search e

  pub agree_set_granted : {f g : ℕ → ℕ → ℕ} → ((x o : ℕ) → x < 8 → o < 64 → f x o ≡ g x o) → Agree (set_granted S f) (set_granted S' g)
  agree_set_granted e = search e

  pub agree_set_owner : {f g : ℕ → ℕ} → ((s : ℕ) → s < 32 → f s ≡ g s) → Agree (set_owner S f) (set_owner S' g)
  agree_set_owner e = search e

  pub agree_set_active : {f g : ℕ → ℕ} → ((s : ℕ) → s < 32 → f s ≡ g s) → Agree (set_active S f) (set_active S' g)
  agree_set_active e = search e

  pub agree_set_holds : {f g : ℕ → ℕ → ℕ} → ((s x : ℕ) → s < 32 → x < 8 → f s x ≡ g s x) → Agree (set_holds S f) (set_holds S' g)
  agree_set_holds e = search e

  pub agree_set_sets : {f g : ℕ → ℕ} → ((i : ℕ) → i < 64 → f i ≡ g i) → Agree (set_sets S f) (set_sets S' g)
  agree_set_sets e = search e

  pub agree_set_seniority : {f g f' g' : ℕ → ℕ} → ((r : ℕ) → r < 64 → f r ≡ f' r) → ((r : ℕ) → r < 64 → g r ≡ g' r)
      → Agree (set_seniority S f g) (set_seniority S' f' g')
  agree_set_seniority e d = search (e, d)

  pub agree_set_masks : {f g : ℕ → ℕ → ℕ} → ((s x : ℕ) → s < 32 → x < 8 → f s x ≡ g s x) → Agree (set_masks S f) (set_masks S' g)
  agree_set_masks e = search e

  -- one word of it
  pub agree_with_assigned : (u : ℕ) {w w' : ℕ} → w ≡ w' → Agree (with_assigned S u w) (with_assigned S' u w')
  agree_with_assigned u e = agree_set_assigned (λ v h. upd_agree S.assigned S'.assigned u v e (a.assigned v h))

  pub agree_with_granted : (x o : ℕ) {w w' : ℕ} → w ≡ w' → Agree (with_granted S x o w) (with_granted S' x o w')
  agree_with_granted x o e = agree_set_granted (λ y p h k. grid_agree S.granted S'.granted x o y p e (a.granted y p h k))

  pub agree_with_owner : (s : ℕ) {w w' : ℕ} → w ≡ w' → Agree (with_owner S s w) (with_owner S' s w')
  agree_with_owner s e = agree_set_owner (λ p h. upd_agree S.owner S'.owner s p e (a.owner p h))

  pub agree_with_active : (s : ℕ) {w w' : ℕ} → w ≡ w' → Agree (with_active S s w) (with_active S' s w')
  agree_with_active s e = agree_set_active (λ p h. upd_agree S.active S'.active s p e (a.active p h))

  pub agree_with_holds : (s : ℕ) {f g : ℕ → ℕ} → ((x : ℕ) → x < 8 → f x ≡ g x) → Agree (with_holds S s f) (with_holds S' s g)
  agree_with_holds s {f} {g} e = agree_set_holds (λ p x h l. row_agree S.holds S'.holds s p x f g (e x l) (a.holds p x h l))

  pub agree_with_masks : (s : ℕ) {f g : ℕ → ℕ} → ((x : ℕ) → x < 8 → f x ≡ g x) → Agree (with_masks S s f) (with_masks S' s g)
  agree_with_masks s {f} {g} e = agree_set_masks (λ p x h l. row_agree S.masks S'.masks s p x f g (e x l) (a.masks p x h l))

  pub agree_with_set : (n : ℕ) {m m' b b' : ℕ} → m ≡ m' → b ≡ b' → Agree (with_set S n m b) (with_set S' n m' b')
  agree_with_set n {m} {m'} e d =
      agree_set_sets (λ i h. upd_agree (upd S.sets (2 * n) m) (upd S'.sets (2 * n) m') (2 * n + 1) i d
      (upd_agree S.sets S'.sets (2 * n) i e (a.sets i h)))

  pub agree_with_direct : (r : ℕ) {w w' : ℕ} → w ≡ w' → Agree (with_direct S r w) (with_direct S' r w')
  agree_with_direct r {w} {w'} e =
      agree_set_seniority (λ p h. ap (λ (l : List ℕ). get_or (closure l) p 0) (tabulate_cong 64 same)) same
    where
      same : (p : ℕ) → p < 64 → upd S.direct r w p ≡ upd S'.direct r w' p
      same p h = upd_agree S.direct S'.direct r p e (a.direct p h)

module _ (S : State) where
  -- a word replaced by itself
  pub agree_own_assigned : (u : ℕ) {w : ℕ} → w ≡ S.assigned u → Agree (with_assigned S u w) S
  agree_own_assigned u {w} e = agree_set_assigned (agree_refl S) (λ v h. upd_own S.assigned u w e v)

  pub agree_own_granted : (x o : ℕ) {w : ℕ} → w ≡ S.granted x o → Agree (with_granted S x o w) S
  agree_own_granted x o {w} e =
      agree_set_granted (agree_refl S) (λ y p h k.
      by_upd S.granted x (upd (S.granted x) o w) (λ (g : ℕ → ℕ). g p ≡ S.granted y p) y
      (λ q. upd_own (S.granted x) o w e p ∙ sym (ap (λ (n : ℕ). S.granted n p) q)) (λ n. refl))

  pub agree_own_active : (s : ℕ) {w : ℕ} → w ≡ S.active s → Agree (with_active S s w) S
  agree_own_active s {w} e = agree_set_active (agree_refl S) (λ p h. upd_own S.active s w e p)

  pub agree_own_holds : (s : ℕ) {f : ℕ → ℕ} → ((x : ℕ) → x < 8 → f x ≡ S.holds s x) → Agree (with_holds S s f) S
  agree_own_holds s {f} e =
      agree_set_holds (agree_refl S) (λ p x h k.
      by_upd S.holds s f (λ (g : ℕ → ℕ). g x ≡ S.holds p x) p (λ q. e x k ∙ sym (ap (λ (n : ℕ). S.holds n x) q)) (λ n. refl))

  pub agree_own_set : (n : ℕ) {m b : ℕ} → m ≡ S.sets (2 * n) → b ≡ S.sets (2 * n + 1) → Agree (with_set S n m b) S
  agree_own_set n {m} {b} e d =
      agree_set_sets (agree_refl S) (λ i h.
      upd_own (upd S.sets (2 * n) m) (2 * n + 1) b (d ∙ sym (upd_own S.sets (2 * n) m e (2 * n + 1))) i ∙ upd_own S.sets (2 * n) m e i)

  pub agree_own_direct : Linked S.juniors S.direct → (r : ℕ) {w : ℕ} → w ≡ S.direct r → Agree (with_direct S r w) S
  agree_own_direct f r {w} e =
      agree_set_seniority (agree_refl S) (λ p h. ap (λ (l : List ℕ). get_or (closure l) p 0) (tabulate_cong 64 same) ∙ sym (linked_closure f p h)) same
    where
      same : (p : ℕ) → p < 64 → upd S.direct r w p ≡ S.direct p
      same p h = upd_own S.direct r w e p

module _ {S S' : State} (a : Agree S S') where
  pub senior_agree : (r q : ℕ) → r < 64 → senior S r q ≡ senior S' r q
  senior_agree r q h = ap (λ (w : ℕ). has w q) (a.juniors r h)

  pub permission_agree : (x o : ℕ) → x < 8 → permission S x o ≡ permission S' x o
  permission_agree x o h = ap (λ (w : ℕ). has w o) (a.permitted x h)

  pub idle_agree : (s : ℕ) → s < 32 → idle S s ≡ idle S' s
  idle_agree s h = ap (λ (w : ℕ). eqb w 0) (a.owner s h)

  pub covers_agree : (roles q : ℕ) → covers S roles q ≡ covers S' roles q
  unfolding covers
  covers_agree roles q = some_cong roles (λ r h. senior_agree r q h)

  pub authorised_agree : (u q : ℕ) → u < 64 → authorised S u q ≡ authorised S' u q
  unfolding authorised
  authorised_agree u q h = covers_agree (S.assigned u) q ∙ ap (λ (w : ℕ). covers S' w q) (a.assigned u h)

  pub may_activate_agree : (s q : ℕ) → s < 32 → S.owner s ≤ 64 → may_activate S s q ≡ may_activate S' s q
  may_activate_agree s q h k =
      by_truth (idle S s)
      (λ i. may_activate_idle S s q i ∙ sym (may_activate_idle S' s q (sym (idle_agree s h) ∙ i)))
      (λ i.
      let n = eqb-false (S.owner s) 0 i in
      may_activate_busy S s q i
      ∙ authorised_agree (user S s) q (omega arith)
      ∙ ap (λ (w : ℕ). authorised S' (w - 1) q) (a.owner s h)
      ∙ sym (may_activate_busy S' s q (sym (idle_agree s h) ∙ i)))

  pub effective_agree : (s x o : ℕ) → s < 32 → x < 8 → o < 64 → effective S s x o ≡ effective S' s x o
  unfolding effective
  effective_agree s x o hs hx ho =
      ap₂ (λ (b c : Bool). b and c) (permission_agree x o hx)
      (some_cong (S.active s) (λ r h.
      ap (λ (w : ℕ). some w (λ q. senior S r q)) (a.granted x o hx ho) ∙ some_cong (S'.granted x o) (λ q k. senior_agree r q h))
      ∙ ap (λ (w : ℕ). some w (λ r. some (S'.granted x o) (λ q. senior S' r q))) (a.active s hs))

  apart : Separated S → Separated S'
  apart f =
      separated_less S S' f a.sets (λ u q h l e. authorised_agree u q h ∙ e) (λ s r hs hr m. ap (λ (w : ℕ). has w r) (a.active s hs) ∙ m)

  pub mask_agree : (s x : ℕ) → s < 32 → x < 8 → mask_of S s x ≡ mask_of S' s x
  unfolding mask_of
  mask_agree s x hs hx = pack_cong 64 (λ o ho. effective_agree s x o hs hx ho)

  -- masks worked out anew in states that agree
  pub agree_refreshed : Agree (refreshed S) (refreshed S')
  agree_refreshed = agree_set_masks a mask_agree

  -- what agrees with a state that is sound but for its masks is so too
  pub agree_ruled : Ruled S → Ruled S'
  agree_ruled f = record {
    is_reflexive = λ r h. sym (senior_agree r r h) ∙ f.is_reflexive r h;
    is_transitive = λ r q p hr hq hp k l.
        sym (senior_agree r p hr) ∙ f.is_transitive r q p hr hq hp (senior_agree r q hr ∙ k) (senior_agree q p hq ∙ l);
    is_antisymmetric = λ r q hr hq k l. f.is_antisymmetric r q hr hq (senior_agree r q hr ∙ k) (senior_agree q r hq ∙ l);
    grants_permitted = λ x o r hx ho hr m.
        sym (permission_agree x o hx) ∙ f.grants_permitted x o r hx ho hr (ap (λ (w : ℕ). has w r) (a.granted x o hx ho) ∙ m);
    owners_known = λ s h. subst (λ (w : ℕ). w ≤ 64) (a.owner s h) (f.owners_known s h);
    idle_no_roles = λ s h i. sym (a.active s h) ∙ f.idle_no_roles s h (idle_agree s h ∙ i);
    idle_no_openings = λ s x hs hx i. sym (a.holds s x hs hx) ∙ f.idle_no_openings s x hs hx (idle_agree s hs ∙ i);
    active_authorised = λ s r hs hr m.
        sym (may_activate_agree s r hs (f.owners_known s hs)) ∙ f.active_authorised s r hs hr (ap (λ (w : ℕ). has w r) (a.active s hs) ∙ m);
    openings_effective = λ s x o hs hx ho m.
        sym (effective_agree s x o hs hx ho) ∙ f.openings_effective s x o hs hx ho (ap (λ (w : ℕ). has w o) (a.holds s x hs hx) ∙ m);
    is_linked = linked_agree f.is_linked a.juniors a.direct;
    is_separated = apart f.is_separated;
  }

pub separated_agree : {S S' : State} → Agree S S' → separated S ≡ separated S'
separated_agree {S} {S'} a =
    same_truth
    (λ e. separated_intro S' (apart a (separated_elim S e)))
    (λ e. separated_intro S (apart (agree_sym a) (separated_elim S' e)))

pub ruled_agree : {S S' : State} → Agree S S' → ruled S ≡ ruled S'
ruled_agree {S} {S'} a =
    same_truth
    (λ e. ruled_intro S' (agree_ruled a (ruled_elim S e)))
    (λ e. ruled_intro S (agree_ruled (agree_sym a) (ruled_elim S' e)))

agree_true : {S S' : State} → Agree S S' → MasksTrue S → MasksTrue S'
agree_true a f s x hs hx = sym (a.masks s x hs hx) ∙ f s x hs hx ∙ mask_agree a s x hs hx

pub sound_agree : {S S' : State} → Agree S S' → sound S ≡ sound S'
sound_agree {S} {S'} a =
    same_truth
    (λ e. sound_intro S' (agree_ruled a (sound_ruled S e)) (agree_true a (sound_masks S e)))
    (λ e. let b = agree_sym a in sound_intro S (agree_ruled b (sound_ruled S' e)) (agree_true b (sound_masks S' e)))

-- masks that are true are those worked out anew
pub true_refreshed : (S : State) → MasksTrue S → Agree S (refreshed S)
true_refreshed S f = agree_set_masks (agree_refl S) {f = S.masks} f
