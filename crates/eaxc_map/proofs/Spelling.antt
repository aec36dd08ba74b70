-- Four digits spell one id, and an id is spelled by one list of digits.
use Rattle.std.proofs.Common.{◌≡◌, ℕ, ◌+◌, ◌*◌, ◌/◌, ◌%◌, ◌^◌, ◌<◌, ◌≤◌, refl, sym, ap, ◌∙◌, subst, arith}
use Rattle.std.proofs.lemmas.Nat.{pow_pos, pow-add, mul-add-lt, shr_below, mod_below, same_from_place, div-add-mod'}
use Rattle.std.proofs.Math.Nat.{pow-le-pow_right}
use Rattle.eaxc_map.specs.declared.widths.Widths.{Widths}
use Rattle.eaxc_map.specs.declared.widths.Parts.{Parts}
use Rattle.eaxc_map.specs.Ids.{number_of, parts_of, FitWidths, AreParts}

-- one more digit
grown : (n k w part : ℕ) → n < 2 ^ k → part < 2 ^ w → n * 2 ^ w + part < 2 ^ (k + w)
grown n k w part below fits = omega (arith, pow-add 2 k w, mul-add-lt n (2 ^ w) part (2 ^ k) below fits)

-- the first two digits, the first three, and all of them
pub two_fit : (w : Widths) (p : Parts) → FitWidths w p → p.du * 2 ^ w.band + p.band < 2 ^ (w.du + w.band)
two_fit w p fit = grown p.du w.du w.band p.band fit.du fit.band

pub three_fit : (w : Widths) (p : Parts) → FitWidths w p → (p.du * 2 ^ w.band + p.band) * 2 ^ w.carrier + p.carrier < 2 ^ (w.du + w.band + w.carrier)
three_fit w p fit = grown (p.du * 2 ^ w.band + p.band) (w.du + w.band) w.carrier p.carrier (two_fit w p fit) fit.carrier

pub number_fits : (w : Widths) (p : Parts) → FitWidths w p → number_of w p < 2 ^ (w.du + w.band + w.carrier + w.port)
number_fits w p fit = grown ((p.du * 2 ^ w.band + p.band) * 2 ^ w.carrier + p.carrier) (w.du + w.band + w.carrier) w.port p.port (three_fit w p fit) fit.port

-- below 2 to some width of at most 16
pub within_16 : (n k : ℕ) → k ≤ 16 → n < 2 ^ k → n < 65536
within_16 n k small below = omega (arith, below, pow-le-pow_right {n = 2} (omega arith) {i = k} {j = 16} small)

make : ℕ → ℕ → ℕ → ℕ → Parts
make du band carrier port = record { du = du; band = band; carrier = carrier; port = port }

same_parts : (p q : Parts) → p.du ≡ q.du → p.band ≡ q.band → p.carrier ≡ q.carrier → p.port ≡ q.port → p ≡ q
unfolding make
same_parts p q du band carrier port =
    ap (λ x. make x p.band p.carrier p.port) du ∙ ap (λ x. make q.du x p.carrier p.port) band ∙ ap (λ x. make q.du q.band x p.port) carrier ∙ ap (make q.du q.band q.carrier) port

-- an id has one list of digits
pub parts_only : (w : Widths) (id : ℕ) (p q : Parts) → AreParts w id p → AreParts w id q → p ≡ q
parts_only w id p q a b =
    let last = same_from_place ((p.du * 2 ^ w.band + p.band) * 2 ^ w.carrier + p.carrier) p.port ((q.du * 2 ^ w.band + q.band) * 2 ^ w.carrier + q.carrier) q.port (2 ^ w.port) a.fit.port b.fit.port (a.spell ∙ sym b.spell) in
    let third = same_from_place (p.du * 2 ^ w.band + p.band) p.carrier (q.du * 2 ^ w.band + q.band) q.carrier (2 ^ w.carrier) a.fit.carrier b.fit.carrier last.0 in
    let first = same_from_place p.du p.band q.du q.band (2 ^ w.band) a.fit.band b.fit.band third.0 in
    same_parts p q first.0 first.1 third.1 last.1

-- the digits by division spell the id
pub parts_spell : (w : Widths) (id : ℕ) → w.du + w.band + w.carrier + w.port ≡ 16 → id < 65536 → AreParts w id (parts_of w id)
parts_spell w id whole small =
    let q = id / 2 ^ w.port in
    let r = q / 2 ^ w.carrier in
    let below : id < 2 ^ (w.du + w.band + w.carrier + w.port) = omega (arith, small, ap (λ k. 2 ^ k) whole) in
    let below_q : q < 2 ^ (w.du + w.band + w.carrier) = shr_below id (w.du + w.band + w.carrier) w.port below in
    let below_r : r < 2 ^ (w.du + w.band) = shr_below q (w.du + w.band) w.carrier below_q in
    let high : r / 2 ^ w.band < 2 ^ w.du = shr_below r w.du w.band below_r in
    let bands : r / 2 ^ w.band * 2 ^ w.band + r % 2 ^ w.band ≡ r = div-add-mod' r (2 ^ w.band) in
    let carriers : r * 2 ^ w.carrier + q % 2 ^ w.carrier ≡ q = div-add-mod' q (2 ^ w.carrier) in
    let ports : q * 2 ^ w.port + id % 2 ^ w.port ≡ id = div-add-mod' id (2 ^ w.port) in
    record {
      fit = record {
        du = high;
        band = mod_below r (2 ^ w.band) (pow_pos w.band);
        carrier = mod_below q (2 ^ w.carrier) (pow_pos w.carrier);
        port = mod_below id (2 ^ w.port) (pow_pos w.port);
      };
      spell = ap (λ x. (x * 2 ^ w.carrier + q % 2 ^ w.carrier) * 2 ^ w.port + id % 2 ^ w.port) bands ∙ ap (λ x. x * 2 ^ w.port + id % 2 ^ w.port) carriers ∙ ports;
    }

-- what digits spell has these digits
pub parts_of_number : (w : Widths) (p : Parts) → w.du + w.band + w.carrier + w.port ≡ 16 → FitWidths w p → parts_of w (number_of w p) ≡ p
parts_of_number w p whole fit =
    let small : number_of w p < 65536 = within_16 (number_of w p) (w.du + w.band + w.carrier + w.port) (omega arith) (number_fits w p fit) in
    parts_only w (number_of w p) (parts_of w (number_of w p)) p (parts_spell w (number_of w p) whole small) (record { fit = fit; spell = refl })

-- the parts of an id fit
pub parts_fit : (w : Widths) (id : ℕ) (p : Parts) → w.du + w.band + w.carrier + w.port ≡ 16 → id < 65536 → parts_of w id ≡ p → FitWidths w p
parts_fit w id p whole small are = subst (FitWidths w) are (parts_spell w id whole small).fit

-- digits spell an id exactly where they are its parts
pub spelled_by_parts : (w : Widths) (id : ℕ) (p : Parts) → w.du + w.band + w.carrier + w.port ≡ 16 → id < 65536 → parts_of w id ≡ p → number_of w p ≡ id
spelled_by_parts w id p whole small are = ap (number_of w) (sym are) ∙ (parts_spell w id whole small).spell
