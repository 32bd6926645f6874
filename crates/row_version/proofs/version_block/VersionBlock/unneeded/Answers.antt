use Rattle.std.proofs.Common.{rules, ◌≡◌, ◌∙◌, refl, ap, ap₂, arith, ℕ, zero, suc, length, not, nat_eq, w32}
use Rattle.std.specs.Prelude.{◌&&◌, nat_le, bit_and}
use Rattle.std.proofs.lemmas.Simd.{bitmask_splat}
use Rattle.key_class.specs.BitLaws.{both_tell}
use Rattle.key_class.specs.Bits.{bits_of}
use Rattle.key_class.specs.BlockLaws.{eight_by_places}
use Rattle.row_version.specs.Entries.{death_of, lives_at}
use Rattle.row_version.proofs.version_block.VersionBlock.unneeded.Goals as goal

-- dead, and not after the horizon
dead_and_past : (horizon died : ℕ) → (not (nat_eq died 0) && nat_le died horizon) ≡ not (lives_at horizon (death_of died))
dead_and_past horizon zero = refl
dead_and_past horizon (suc n) = grind arith

pub returns : goal.returns
returns c =
    let died = c.args.self.now.died in
    let horizon = c.args.horizon in
    let eight : length died ≡ 8 = search rules in
    ap₂ bit_and (bitmask_splat w32 (λ a b. not (nat_eq a b)) died 8 0 eight (omega arith)) (bitmask_splat w32 nat_le died 8 horizon eight (omega arith))
    ∙ both_tell (λ n. not (nat_eq n 0)) (λ n. nat_le n horizon) died
    ∙ ap (λ p. bits_of p died) (λ t n. dead_and_past horizon n t)
    ∙ ap (bits_of (λ n. not (lives_at horizon (death_of n)))) (eight_by_places died eight 0)
