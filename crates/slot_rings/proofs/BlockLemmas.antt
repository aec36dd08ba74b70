-- A list of blocks and the numbers of cells in it.
use Rattle.std.proofs.Common.{◌≡◌, ◌≢◌, ℕ, zero, suc, ◌^◌, ◌<◌, ◌≤◌, inl, inr, Bool, true, false, ◌==◌, List, [], ◌∷◌, ◌++◌, length, get_or, set, refl, ap, sym, ◌∙◌, arith, Option, Some, None}
use Rattle.std.specs.Prelude.{if◌then◌else◌, slice_get}
use Rattle.std.proofs.lemmas.Bool.{cases_eq, cases_lt}
use Rattle.std.proofs.lemmas.Bool.Decides.{nat_tests}
use Rattle.std.proofs.lemmas.List.{get_or_at, get_or-set_same, get_or-set_other, length-append, length-map, length-set, set_at}
use Rattle.bfp_codec.specs.declared.samples.Wide.{Wide}
use Rattle.fh_base.specs.Lists.{or_else}
use Rattle.unit_model.specs.declared.cells.Block.{Block}
use Rattle.slot_rings.specs.Blocks.{AreNumbers, BlocksValue, block_named, blocks_named, count_named, value_of}

-- ---- the block with a number

pub named_at : (list : List Block) (numbers : List ℕ) (k : ℕ) → get_or (blocks_named list numbers) k None ≡ block_named list (get_or numbers k 0)
named_at list [] k = refl
named_at list (n ∷ numbers) zero = refl
named_at list (n ∷ numbers) (suc k) = named_at list numbers k

get_before : (list more : List Block) (k : ℕ) → k < length list → slice_get (list ++ more) k ≡ slice_get list k
get_before [] more k below = absurd (omega arith)
get_before (b ∷ list) more zero below = refl
get_before (b ∷ list) more (suc k) below = get_before list more k (omega arith)

get_last : (list : List Block) (b : Block) → slice_get (list ++ b ∷ []) (length list) ≡ Some b
get_last [] b = refl
get_last (x ∷ list) b = get_last list b

named_before : (list more : List Block) (n : ℕ) → n ≤ length list → block_named (list ++ more) n ≡ block_named list n
named_before list more zero below = refl
named_before list more (suc k) below = get_before list more k (omega arith)

get_some : (list : List Block) (k : ℕ) (o : Option Block) → k < length list → slice_get list k ≡ or_else (slice_get list k) o
get_some [] k o below = absurd (omega arith)
get_some (b ∷ list) zero o below = refl
get_some (b ∷ list) (suc k) o below = get_some list k o (omega arith)

named_some : (list : List Block) (n : ℕ) (o : Option Block) → n ≢ 0 → n ≤ length list → block_named list n ≡ or_else (block_named list n) o
named_some list zero o some within = absurd (some refl)
named_some list (suc k) o some within = get_some list k o (omega arith)

-- ---- how many cells have one

count_most : (numbers : List ℕ) → count_named numbers ≤ length numbers
count_most [] = omega arith
count_most (zero ∷ numbers) = omega (arith, count_most numbers)
count_most (suc n ∷ numbers) = omega (arith, count_most numbers)

count_room : (numbers : List ℕ) (k : ℕ) → k < length numbers → get_or numbers k 0 ≡ 0 → count_named numbers < length numbers
count_room [] k below none = absurd (omega arith)
count_room (zero ∷ numbers) zero below none = omega (arith, count_most numbers)
count_room (suc n ∷ numbers) zero below none = absurd (let e : suc n ≡ 0 = none in omega (arith, e))
count_room (zero ∷ numbers) (suc k) below none = omega (arith, count_room numbers k (omega arith) none)
count_room (suc n ∷ numbers) (suc k) below none = omega (arith, count_room numbers k (omega arith) none)

count_set : (numbers : List ℕ) (k n : ℕ) → k < length numbers → get_or numbers k 0 ≡ 0 → count_named (set numbers k (suc n)) ≡ suc (count_named numbers)
count_set [] k n below none = absurd (omega arith)
count_set (zero ∷ numbers) zero n below none = refl
count_set (suc m ∷ numbers) zero n below none = absurd (let e : suc m ≡ 0 = none in omega (arith, e))
count_set (zero ∷ numbers) (suc k) n below none = count_set numbers k n (omega arith) none
count_set (suc m ∷ numbers) (suc k) n below none = ap suc (count_set numbers k n (omega arith) none)

count_blank : (numbers : List ℕ) → ((k : ℕ) → get_or numbers k 0 ≡ 0) → count_named numbers ≡ 0
count_blank [] blank = refl
count_blank (zero ∷ numbers) blank = count_blank numbers (λ k. blank (suc k))
count_blank (suc n ∷ numbers) blank = absurd (let e : suc n ≡ 0 = blank 0 in omega (arith, e))

count_same : (a b : List ℕ) → ((k : ℕ) → get_or a k 0 ≡ get_or b k 0) → count_named a ≡ count_named b
count_same [] b same = sym (count_blank b (λ k. sym (same k)))
count_same a [] same = count_blank a same
count_same (zero ∷ a) (zero ∷ b) same = count_same a b (λ k. same (suc k))
count_same (suc m ∷ a) (suc n ∷ b) same = ap suc (count_same a b (λ k. same (suc k)))
count_same (zero ∷ a) (suc n ∷ b) same = absurd (let e : 0 ≡ suc n = same 0 in omega (arith, e))
count_same (suc m ∷ a) (zero ∷ b) same = absurd (let e : suc m ≡ 0 = same 0 in omega (arith, e))

-- ---- more cells have a number, and none has another block

pub reach_most : (before after len cells : ℕ) → (before ≤ len → after ≡ len) → (len ≤ before → after ≡ before) → before ≤ cells → len ≤ cells → after ≤ cells
reach_most before after len cells more stays few fits = elim (cases_lt before len) [
  | inl short ↦ let e = more (omega (arith, short)) in omega (arith, e, fits)
  | inr long ↦ let e = stays long in omega (arith, e, few)
]

module _ (cells : ℕ) (old new : List ℕ) (list : List Block) (are : AreNumbers cells old list) (same : (k : ℕ) → get_or new k 0 ≡ get_or old k 0) where
  pub reach_are : length new ≤ cells → AreNumbers cells new list
  reach_are most = record {
    few = are.few;
    most = most;
    count = are.count ∙ sym (count_same new old same);
    within = λ k. let e = same k in let w = are.within k in omega (arith, e, w);
  }

  pub reach_same : (k : ℕ) → get_or (blocks_named list new) k None ≡ get_or (blocks_named list old) k None
  reach_same k = named_at list new k ∙ ap (λ (n : ℕ). block_named list n) (same k) ∙ sym (named_at list old k)

-- ---- all are forgotten

numbered : (list : List Block) (n : ℕ) → n ≤ length list → block_named list n ≡ None → n ≡ 0
numbered list zero within none = refl
numbered list (suc k) within none = absurd (some list k within none)
  where
    some : (list : List Block) (k : ℕ) → k < length list → slice_get list k ≡ None → ⊥
    some [] k below none = omega (arith, below)
    some (b ∷ list) zero below none = cc
    some (b ∷ list) (suc k) below none = some list k (omega (arith, below)) none

pub unnumbered : (cells : ℕ) (numbers : List ℕ) (list : List Block) (k : ℕ) → AreNumbers cells numbers list → get_or (blocks_named list numbers) k None ≡ None → get_or numbers k 0 ≡ 0
unnumbered cells numbers list k are none = numbered list (get_or numbers k 0) (are.within k) (sym (named_at list numbers k) ∙ none)

module _ (cells : ℕ) (old new : List ℕ) (list none : List Block) (are : AreNumbers cells old list) (len : length new ≡ length old) (empty : none ≡ [])
    (blank : (k : ℕ) → get_or new k 0 ≡ 0) where
  pub wiped_are : AreNumbers cells new none
  wiped_are = record {
    few = are.few;
    most = omega (arith, len, are.most);
    count = ap length empty ∙ sym (count_blank new blank);
    within = λ k. omega (arith, blank k);
  }

  pub wiped_none : (k : ℕ) → get_or (blocks_named none new) k None ≡ None
  wiped_none k = named_at none new k ∙ ap (λ (n : ℕ). block_named none n) (blank k)

-- ---- a block whose samples are unpacked at the end of a list

pub unpacked_last : (list pushed : List Block) (b x : Block) (n : ℕ) (samples wanted : List Wide) (ok : Bool) → pushed ≡ (if ok then list ++ b ∷ [] else list) → ok ≡ true
    → length list ≡ n → x ≡ get_or pushed n x → samples ≡ wanted
    → set pushed n (record { id = x.id; samples = samples }) ≡ list ++ record { id = b.id; samples = wanted } ∷ []
unpacked_last list pushed b x n samples wanted ok pushed_is ok_is len read is =
    let is_pushed : pushed ≡ list ++ b ∷ [] = pushed_is ∙ ap (λ (t : Bool). if t then list ++ b ∷ [] else list) ok_is in
    let x_is : x ≡ b = read ∙ ap (λ (l : List Block). get_or l n x) is_pushed ∙ get_or_at list b [] x n len in
    ap (λ (l : List Block). set l n (record { id = x.id; samples = samples })) is_pushed
    ∙ set_at list b [] (record { id = x.id; samples = samples }) n len
    ∙ ap (λ (i : ℕ). list ++ record { id = i; samples = samples } ∷ []) (ap (λ (y : Block). y.id) x_is)
    ∙ ap (λ (w : List Wide). list ++ record { id = b.id; samples = w } ∷ []) is

-- ---- whether a cell has a number

pub is_zero : (n : ℕ) (free : Bool) → free ≡ (n == 0) → free ≡ true → n ≡ 0
is_zero n free is h = grind (arith, nat_tests)

pub not_zero : (n : ℕ) (free : Bool) → free ≡ (n == 0) → free ≡ false → n ≢ 0
not_zero n free is h = grind (arith, nat_tests)

-- ---- a cell that has none gets a block, the last of the list

module _ (v : BlocksValue) (cells : ℕ) (numbers : List ℕ) (list : List Block) (k : ℕ) (view_is : value_of cells numbers list ≡ v)
    (are : AreNumbers cells numbers list) (below : k < length v.items) where
  here : k < length numbers
  here =
      let len : length (blocks_named list numbers) ≡ length v.items = ap (λ (w : BlocksValue). length w.items) view_is in
      omega (arith, below, len, length-map numbers (block_named list))

  block_is : get_or v.items k None ≡ block_named list (get_or numbers k 0)
  block_is = ap (λ (w : BlocksValue). get_or w.items k None) (sym view_is) ∙ named_at list numbers k

  -- one that has a block
  pub put_kept : (o : Option Block) → get_or numbers k 0 ≢ 0 → get_or v.items k None ≡ or_else (get_or v.items k None) o
  put_kept o some =
      block_is ∙ named_some list (get_or numbers k 0) o some (are.within k) ∙ ap (λ (b : Option Block). or_else b o) (sym block_is)

  module _ (none : get_or numbers k 0 ≡ 0) where
    pub put_room : length list < cells
    put_room = omega (arith, count_room numbers k here none, are.count, are.most)

    module _ (new : List Block) (b : Block) (n : ℕ) (new_is : new ≡ list ++ b ∷ []) (n_is : n ≡ length new) where
      longer : length new ≡ suc (length list)
      longer = ap length new_is ∙ omega (arith, length-append list (b ∷ []))

      pub put_small : n < 2 ^ 16
      put_small = omega (arith, n_is, longer, put_room, are.few)

      number_most : (i : ℕ) → get_or (set numbers k n) i 0 ≤ length new
      number_most i = elim (cases_eq i k) [
        | inl at ↦
            let e = get_or-set_same numbers k n 0 here in
            let f = ap (λ (j : ℕ). get_or (set numbers k n) j 0) at in
            omega (arith, e, f, n_is)
        | inr apart ↦
            let e = get_or-set_other numbers k i n 0 apart in
            let w = are.within i in
            omega (arith, e, w, longer)
      ]

      pub put_are : AreNumbers cells (set numbers k n) new
      put_are = record {
        few = are.few;
        most = omega (arith, length-set numbers k n, are.most);
        count = longer ∙ ap suc are.count ∙ sym (count_set numbers k (length list) here none) ∙ ap (λ (m : ℕ). count_named (set numbers k m)) (sym (n_is ∙ longer));
        within = number_most;
      }

      pub put_here : get_or (blocks_named new (set numbers k n)) k None ≡ or_else (get_or v.items k None) (Some b)
      put_here =
          named_at new (set numbers k n) k
          ∙ ap (λ (m : ℕ). block_named new m) (get_or-set_same numbers k n 0 here ∙ n_is ∙ longer)
          ∙ ap (λ (l : List Block). slice_get l (length list)) new_is
          ∙ get_last list b
          ∙ ap (λ (o : Option Block). or_else o (Some b)) (sym (block_is ∙ ap (λ (m : ℕ). block_named list m) none))

      pub put_others : (i : ℕ) → i ≢ k → get_or (blocks_named new (set numbers k n)) i None ≡ get_or v.items i None
      put_others i apart =
          named_at new (set numbers k n) i
          ∙ ap (λ (m : ℕ). block_named new m) (get_or-set_other numbers k i n 0 apart)
          ∙ ap (λ (l : List Block). block_named l (get_or numbers i 0)) new_is
          ∙ named_before list (b ∷ []) (get_or numbers i 0) (are.within i)
          ∙ sym (named_at list numbers i)
          ∙ ap (λ (w : BlocksValue). get_or w.items i None) view_is
