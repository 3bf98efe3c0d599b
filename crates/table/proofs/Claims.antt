-- The claims of specs/Claims.antt. Assumes nothing.
use Prim.Native.Nat.{ℕ}
use mathlib.Core.Path.{sym, ap, ◌∙◌}
use Rattle.bits.specs.Words.{has}
use Rattle.table.specs.Claims.{TableIsState, AuthorisedMeans, EffectiveMeans, SeniorityMeans, EveryJuniorLinked, SeparatedMeans, MaskMeans, RefreshedSound, SoundMeans}
use Rattle.table.proofs.State.{authorised_intro, authorised_elim, effective_intro, effective_elim}
use Rattle.table.proofs.Table.{table_length_lem}
use Rattle.table.proofs.Encode.{encode_state}
use Rattle.table.proofs.Seniority.{juniors_linked}
use Rattle.table.proofs.Separation.{separated_intro, separated_elim}
use Rattle.table.proofs.Masks.{mask_has}
use Rattle.table.proofs.Sound.{reflexive_elim, transitive_elim, ruled_elim, sound_ruled, sound_masks, sound_intro, refreshed_sound}

pub table_is_state : TableIsState
table_is_state t i = sym (encode_state t (table_length_lem t i))

pub authorised_means : AuthorisedMeans
authorised_means S u q = (authorised_elim S u q, authorised_intro S u q)

pub effective_means : EffectiveMeans
effective_means S s x o = (effective_elim S s x o, effective_intro S s x o)

pub seniority_means : SeniorityMeans
seniority_means S r q f hr hq = (sound_ruled S f).is_linked.is_reached r q hr hq

pub every_junior_linked : EveryJuniorLinked
every_junior_linked S w r t = juniors_linked S.juniors w (reflexive_elim S r) (transitive_elim S t)

pub separated_means : SeparatedMeans
separated_means S = (separated_elim S, separated_intro S)

pub sound_means : SoundMeans
sound_means S =
    ((λ e. record { is_ruled = sound_ruled S e; masks_true = sound_masks S e }), (λ f. sound_intro S f.is_ruled f.masks_true))

pub mask_means : MaskMeans
mask_means S s x o f hs hx ho =
    let e = ap (λ (w : ℕ). has w o) (sound_masks S f s x hs hx) ∙ mask_has S s x o ho in
    ((λ m. effective_elim S s x o (sym e ∙ m)), (λ m. e ∙ effective_intro S s x o m))

pub refreshed_sound_means : RefreshedSound
refreshed_sound_means S f = refreshed_sound (ruled_elim S f)
