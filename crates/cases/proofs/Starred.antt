-- The starred cases, worked out on states; that the guard's tables show these states is a law of the role guard. Assumes
-- nothing.
use Prim.Native.Nat.{ℕ}
use mathlib.Core.Path.{◌≡◌, refl, sym, ap, subst, ◌∙◌}
use mathlib.Core.Bool.{true}
use mathlib.Core.List.{List, [], ◌∷◌}
use lib.ListN.{get_or}
use Rattle.bits.specs.Words.{◌and◌, ◌or◌, ◌implies◌, when◌then◌else◌, upd, has, all, subset, bit, pack, ◌with◌, tabulate}
use Rattle.bits.specs.Sets.{each, any, some, overlap, ◌without◌, join}
use Rattle.table.specs.State.{State}
use Rattle.table.specs.Authority.{covers, authorised, may_activate, effective}
use Rattle.table.specs.Separation.{empty_pair, fewer}
use Rattle.table.specs.Sound.{sound}
use Rattle.table.specs.Changes.{set_seniority}
use Rattle.table.specs.Table.{encode}
use Rattle.table.proofs.Table.{is_table_lem}
use Rattle.bits.proofs.Tabulate.{length_tabulate}
use Rattle.sound.specs.Answers.{is_sound, openings_fit, sessions_fit, pair_fits}
use Rattle.requests.specs.Request.{Outcome, within}
use Rattle.rbac.specs.Roles.{is_code, limits, in_range, carries_bad_pair, decode, known, changed}
use Rattle.rbac.proofs.Playing as playing
use Rattle.rbac.proofs.Playing.{stay, move}
use Rattle.rbac.proofs.Requests.{sound_encode}
use Rattle.closure.specs.Closure.{via, through, closure, acyclic}
use Rattle.setup.specs.SetUp.{fresh, role_set_up}
use Rattle.setup.proofs.Claims.{set_up_sound}
use Rattle.setup.proofs.SetUp.{set_up_accepted}
use Rattle.machine.specs.Label.{class, brands, stands, equal_or_above}
use Rattle.cases.specs.Cases.{Row, asked, compared, holds, direct, permissions, starred, Met, StarredCases}

-- ---- the set-up, worked out

-- each role and its juniors
abbrev rows : List ℕ
rows = 1 ∷ 2 ∷ 4 ∷ 10 ∷ 16 ∷ 42 ∷ 64 ∷ 128 ∷ 256 ∷ 512 ∷ 1024 ∷ 2048 ∷ 4096 ∷ 8192 ∷ 16384 ∷ 32768 ∷ 65536 ∷ 131072 ∷ 262144 ∷ 524288 ∷ 1048576 ∷ 2097152 ∷ 4194304 ∷ 8388608 ∷ 16777216 ∷ 33554432 ∷ 67108864 ∷ 134217728 ∷ 268435456 ∷ 536870912 ∷ 1073741824 ∷ 2147483648 ∷ 4294967296 ∷ 8589934592 ∷ 17179869184 ∷ 34359738368 ∷ 68719476736 ∷ 137438953472 ∷ 274877906944 ∷ 549755813888 ∷ 1099511627776 ∷ 2199023255552 ∷ 4398046511104 ∷ 8796093022208 ∷ 17592186044416 ∷ 35184372088832 ∷ 70368744177664 ∷ 140737488355328 ∷ 281474976710656 ∷ 562949953421312 ∷ 1125899906842624 ∷ 2251799813685248 ∷ 4503599627370496 ∷ 9007199254740992 ∷ 18014398509481984 ∷ 36028797018963968 ∷ 72057594037927936 ∷ 144115188075855872 ∷ 288230376151711744 ∷ 576460752303423488 ∷ 1152921504606846976 ∷ 2305843009213693952 ∷ 4611686018427387904 ∷ 9223372036854775808 ∷ []

closed : closure direct ≡ rows
unfolding direct closure through via tabulate has ◌with◌ join pack bit when◌then◌else◌ ◌and◌ ◌or◌
closed = refl

no_cycle : acyclic rows ≡ true
unfolding acyclic all each has ◌and◌ ◌or◌ ◌implies◌
no_cycle = refl

-- the state after it, with these rows
abbrev begun : List ℕ → State
begun l = set_seniority (fresh direct permissions) (λ r. get_or l r 0) (fresh direct permissions).direct

-- ---- every row, worked out on states

abbrev Shows : State → List Row → Type 0
Shows S [] = Unit
Shows S (asked q n ∷ rest) = ((move S q).answer ≡ n) × Shows (move S q).next rest
Shows S (compared a b w ∷ rest) = (stands a b ≡ w) × Shows S rest
Shows S (holds b ∷ rest) = (b ≡ true) × Shows S rest

shows_met : (rest : List Row) (S : State) → sound S ≡ true → Shows S rest → Met (encode S) rest
shows_met [] S f h = h
shows_met (asked q n ∷ rest) S f h =
    let v = playing.moved S f q in
    (v.answer ∙ h.0, subst (λ (t : List ℕ). Met t rest) (sym v.table) (shows_met rest (move S q).next v.is_sound h.1))
shows_met (compared a b w ∷ rest) S f h = (h.0, shows_met rest S f h.1)
shows_met (holds b ∷ rest) S f h = (h.0, shows_met rest S f h.1)

shown : Shows (begun rows) starred
unfolding starred permissions fresh move stay is_code limits in_range carries_bad_pair within decode known changed playing.asked openings_fit sessions_fit pair_fits covers authorised may_activate effective fewer empty_pair upd has all any each some subset overlap bit pack ◌with◌ ◌without◌ when◌then◌else◌ ◌and◌ ◌or◌ ◌implies◌ class brands stands equal_or_above
shown = (refl, (refl, (refl, (refl, (refl, (refl, (refl, (refl, (refl, (refl, (refl, (refl, (refl, (refl, (refl, (refl, (refl, (refl, (refl, (refl, (refl, (refl, (refl, (refl, tt))))))))))))))))))))))))

-- ---- on the table after the set-up

begins : fresh direct permissions ≡ begun rows
unfolding fresh
begins = ap begun closed

pub starred_cases : StarredCases
unfolding direct permissions
starred_cases t e =
    let a = set_up_accepted t direct permissions (is_table_lem t e) (length_tabulate 64 _) refl (ap acyclic closed ∙ no_cycle) in
    let z : (role_set_up t direct permissions).state ≡ encode (begun rows) = ap (λ (o : Outcome (List ℕ)). o.state) a ∙ ap encode begins in
    let b = ap (λ (o : Outcome (List ℕ)). o.answer) a in
    record {
      accepted = b;
      met = subst (λ (l : List ℕ). Met l starred) (sym z)
          (shows_met starred (begun rows) (sound_encode (begun rows) (sym (ap is_sound z) ∙ set_up_sound t direct permissions b)) shown);
    }
