use Rattle.std.proofs.Common.{◌≡◌, ℕ, ◌+◌, ◌*◌, ◌/◌, ◌%◌, ◌^◌, ◌<◌, IsTrue, nat_eq, arith}
use Rattle.std.proofs.lemmas.Nat.{pow_pos, mod_below, div-add-mod'}
use Rattle.std.proofs.Math.Nat.{div-eq_of_lt}
use Rattle.eaxc_map.proofs.widths.fits.Goals as goal

none_above : (n m : ℕ) → 0 < m → IsTrue (nat_eq (n / m) 0) → n < m
none_above n m some none =
    let is : n / m ≡ 0 = grind (arith, none) in
    let whole : n / m * m + n % m ≡ n = div-add-mod' n m in
    omega (arith, mod_below n m some, rw is at whole)

none_left : (n m : ℕ) → n < m → IsTrue (nat_eq (n / m) 0)
none_left n m below = let is : n / m ≡ 0 = div-eq_of_lt below in grind (arith, is)

pub returns : goal.returns
returns c = (λ none. none_above c.args.part (2 ^ c.args.width) (pow_pos c.args.width) none, λ below. none_left c.args.part (2 ^ c.args.width) below)
