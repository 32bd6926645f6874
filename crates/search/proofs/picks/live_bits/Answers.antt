use Rattle.std.proofs.Common.{rules, arith, ◌≡◌, ◌∙◌, refl, ap, ℕ, zero, suc, length, nat_eq}
use Rattle.key_class.specs.Bits.{bits_of}
use Rattle.key_class.specs.BlockLaws.{eight_by_places}
use Rattle.row_version.specs.Entries.{death_of}
use Rattle.search.specs.Live.{is_live}
use Rattle.search.proofs.picks.live_bits.Goals as goal

-- 0 stands for a row that no commit ended
none_died : (died : ℕ) → nat_eq died 0 ≡ is_live (death_of died)
none_died zero = refl
none_died (suc n) = grind arith

pub returns : goal.returns
returns c =
    let died = c.args.versions.now.died in
    let eight : length died ≡ 8 = search rules in
    c.equal_bits.ensures
    ∙ ap (λ p. bits_of p died) (λ t n. none_died n t)
    ∙ ap (bits_of (λ n. is_live (death_of n))) (eight_by_places died eight 0)
