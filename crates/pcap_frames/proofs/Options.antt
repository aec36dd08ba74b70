-- From one option to the next.
use Rattle.std.proofs.Common.{◌≡◌, ℕ, zero, suc, ◌+◌, ◌≤◌, Bool, List, [], ◌∷◌, length, drop, Option, Some, None, Result, Ok, Err, refl, sym, ap, ◌∙◌, arith}
use Rattle.pcap_frames.specs.declared.pcapng_refusals.BlockWhy.{BlockWhy}
use Rattle.pcap_frames.specs.declared.pcapng_values.Interface.{Interface}
use Rattle.pcap_frames.specs.Numbers.{padded}
use Rattle.pcap_frames.specs.Interfaces.{Chosen, option_of, behind_first, changed, changed_by, ended_or, described}

-- the first bytes belong to an option that was read
skip : (little : Bool) (n : ℕ) (i : Interface) (bytes : List ℕ) → n ≤ length bytes → described little n i bytes ≡ described little 0 i (drop n bytes)
unfolding described
skip little zero i [] h = refl
skip little zero i (b ∷ bytes) h = refl
skip little (suc n) i [] h = absurd (omega arith)
skip little (suc n) i (b ∷ bytes) h = skip little n i bytes (omega arith)

abbrev step : Bool → Interface → List ℕ → Result (Option Chosen) BlockWhy → Result Interface BlockWhy
step little i bytes o = ended_or o i (described little (behind_first o) (changed_by little i o) bytes)

-- the others follow an option
pub next : (little : Bool) (i : Interface) (bytes : List ℕ) (o : Chosen) → option_of little bytes ≡ Ok (Some o) → 4 + padded (length o.value) ≤ length bytes
    → described little 0 i bytes ≡ described little 0 (changed little i o) (drop (4 + padded (length o.value)) bytes)
unfolding described
next little i [] o e h = absurd (omega (arith, h))
next little i (b ∷ bytes) o e h =
    let more : 4 + padded (length o.value) ≡ suc (3 + padded (length o.value)) = omega arith in
    ap (step little i bytes) e
    ∙ skip little (3 + padded (length o.value)) (changed little i o) bytes (omega (arith, h))
    ∙ ap (λ n. described little 0 (changed little i o) (drop n (b ∷ bytes))) (sym more)

-- where options end, an interface remains as it is
pub ended : (little : Bool) (i : Interface) (bytes : List ℕ) → option_of little bytes ≡ Ok None → described little 0 i bytes ≡ Ok i
unfolding described
ended little i [] e = refl
ended little i (b ∷ bytes) e = ap (step little i bytes) e

-- a wrong one is refused
pub wrong : (little : Bool) (i : Interface) (bytes : List ℕ) (w : BlockWhy) → option_of little bytes ≡ Err w → described little 0 i bytes ≡ Err w
unfolding described
wrong little i [] w e = absurd cc
wrong little i (b ∷ bytes) w e = ap (step little i bytes) e
