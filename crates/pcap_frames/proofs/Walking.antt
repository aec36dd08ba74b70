-- From one part of a walk to the next.
use Rattle.std.proofs.Common.{◌≡◌, ℕ, ◌+◌, ◌<◌, ◌≤◌, zero, suc, List, [], ◌∷◌, ◌++◌, length, take, drop, Ok, Err, refl, sym, ap, ◌∙◌, arith, subst}
use Rattle.pcap_frames.specs.declared.refusals.PcapWhy.{PcapWhy}
use Rattle.pcap_frames.specs.declared.values.Layout.{Layout}
use Rattle.pcap_frames.specs.declared.values.Layout.TheVariants.{Records, Blocks}
use Rattle.pcap_frames.specs.declared.values.Whose.{Whose}
use Rattle.pcap_frames.specs.declared.walks.Walk.{Walk}
use Rattle.pcap_frames.specs.declared.refusals.PcapRefusal.{PcapRefusal}
use Rattle.pcap_frames.specs.Parts.{Reading, part_of, after, parts_from, added, interfaces_in, opened, interfaces_by, interfaces_of}
use Rattle.pcap_frames.specs.Packets.{reading_as}
use Rattle.pcap_frames.specs.Wanted.{wanted_of, one_before, wanted_from, wanted_through, wanted_frames}
use Rattle.pcap_frames.specs.Walks.{reading_of, left_in, later_in, IsWalk, Expects, IsBehind}
use Rattle.pcap_frames.proofs.Steps.{next, last, ended}
use Rattle.pcap_frames.proofs.Passing.{wanted_cons, wanted_end, interfaces_cons, interfaces_end}
use Rattle.pcap_frames.specs.declared.pcapng_values.Interface.{Interface}
use Rattle.pcap_frames.specs.Blocks.{Block, Held, begins, adds, shows, nothing}

-- the interfaces that are to follow begin with that which a part adds
later_is : (w : Walk) (part : Block) → IsWalk w → part_of (reading_of w) w.rest.now ≡ Ok part → 0 < part.size → part.size ≤ length w.rest.now
    → later_in w ≡ added part.held ++ interfaces_in (parts_from (after (reading_of w) part.held) 0 (drop part.size w.rest.now))
later_is w part h e some within =
    h.later ∙ ap interfaces_in (next (reading_of w) w.rest.now part e some within) ∙ interfaces_cons part (parts_from (after (reading_of w) part.held) 0 (drop part.size w.rest.now))

expects_by : (w : Walk) (held : Held) (rest : List Interface) → later_in w ≡ added held ++ rest → Expects w held
expects_by w (begins little) rest e = tt
expects_by w (adds i) rest e = (rest, e)
expects_by w (shows seen) rest e = tt
expects_by w nothing rest e = tt

pub expects : (w : Walk) (part : Block) → IsWalk w → part_of (reading_of w) w.rest.now ≡ Ok part → 0 < part.size → part.size ≤ length w.rest.now → Expects w part.held
expects w part h e some within = expects_by w part.held _ (later_is w part h e some within)

same_later : (held : Held) (xs ys : List Interface) → added held ++ xs ≡ added held ++ ys → xs ≡ ys
same_later (begins little) xs ys e = e
same_later (adds i) xs ys e = cc
same_later (shows seen) xs ys e = e
same_later nothing xs ys e = e

left_is : (w behind : Walk) (part : Block) → part_of (reading_of w) w.rest.now ≡ Ok part → 0 < part.size → part.size ≤ length w.rest.now → IsBehind w part.held part.size behind
    → left_in w ≡ Ok part ∷ left_in behind
left_is w behind part e some within b =
    next (reading_of w) w.rest.now part e some within
    ∙ ap (λ r. Ok part ∷ parts_from r 0 (drop part.size w.rest.now)) (sym b.reading)
    ∙ ap (λ x. Ok part ∷ parts_from (reading_of behind) 0 x) (sym b.rest)

pub wanted_next : (w behind : Walk) (part : Block) → part_of (reading_of w) w.rest.now ≡ Ok part → 0 < part.size → part.size ≤ length w.rest.now → IsBehind w part.held part.size behind
    → (whose : Whose) → wanted_from whose (left_in w) ≡ one_before (wanted_of whose part.held) (wanted_from whose (left_in behind))
wanted_next w behind part e some within b whose = ap (wanted_from whose) (left_is w behind part e some within b) ∙ wanted_cons whose part (left_in behind)

pub walk_next : (w behind : Walk) (part : Block) → IsWalk w → part_of (reading_of w) w.rest.now ≡ Ok part → 0 < part.size → part.size ≤ length w.rest.now → IsBehind w part.held part.size behind
    → IsWalk behind
walk_next w behind part h e some within b = record {
  within = b.within;
  later = same_later part.held (later_in behind) (interfaces_in (left_in behind))
      (sym b.later ∙ h.later ∙ ap interfaces_in (left_is w behind part e some within b) ∙ interfaces_cons part (left_in behind));
}

-- after what is refused nothing is left
wanted_stop : (whose : Whose) (why : PcapWhy) → wanted_from whose (Err why ∷ []) ≡ []
unfolding wanted_from
wanted_stop whose why = refl

pub wanted_none : (r : Reading) (bytes : List ℕ) (why : PcapWhy) → part_of r bytes ≡ Err why → (whose : Whose) → wanted_from whose (parts_from r 0 bytes) ≡ []
wanted_none r [] why e whose = ap (wanted_from whose) (ended r [] refl) ∙ wanted_end whose
wanted_none r (b ∷ bytes) why e whose = ap (wanted_from whose) (last r (b ∷ bytes) why (omega arith) e) ∙ wanted_stop whose why

-- ---- one interface more

take_suc : (n : ℕ) (xs more : List Interface) (x : Interface) → drop n xs ≡ x ∷ more → take (suc n) xs ≡ take n xs ++ x ∷ []
take_suc zero [] more x e = absurd cc
take_suc zero (y ∷ ys) more x e =
    let same : y ≡ x = cc in
    ap (λ z. z ∷ []) same
take_suc (suc n) [] more x e = absurd cc
take_suc (suc n) (y ∷ ys) more x e = ap (λ t. y ∷ t) (take_suc n ys more x e)

drop_suc : (n : ℕ) (xs more : List Interface) (x : Interface) → drop n xs ≡ x ∷ more → drop n xs ≡ x ∷ drop (suc n) xs
drop_suc zero [] more x e = absurd cc
drop_suc zero (y ∷ ys) more x e =
    let same : y ≡ x = cc in
    ap (λ z. z ∷ ys) same
drop_suc (suc n) [] more x e = absurd cc
drop_suc (suc n) (y ∷ ys) more x e = drop_suc n ys more x e

count_more : (n : ℕ) (xs more : List Interface) (x : Interface) → drop n xs ≡ x ∷ more → n + 1 ≤ length xs
count_more zero [] more x e = absurd cc
count_more zero (y ∷ ys) more x e = omega arith
count_more (suc n) [] more x e = absurd cc
count_more (suc n) (y ∷ ys) more x e = omega (arith, count_more n ys more x e)

is_suc : (n : ℕ) → suc n ≡ n + 1
is_suc n = omega arith

reading_more : (layout : Layout) (n : ℕ) (xs more : List Interface) (x : Interface) → drop n xs ≡ x ∷ more → reading_as layout (take (n + 1) xs) ≡ after (reading_as layout (take n xs)) (adds x)
reading_more (Records format) n xs more x e = refl
reading_more (Blocks little) n xs more x e = ap (λ is. reading_as (Blocks little) is) (sym (ap (λ m. take m xs) (is_suc n)) ∙ take_suc n xs more x e)

-- a part that adds an interface
adds_behind : (w behind : Walk) (i : Interface) (size : ℕ) → Expects w (adds i) → behind.rest.now ≡ drop size w.rest.now → behind.layout ≡ w.layout
    → behind.interfaces.now ≡ w.interfaces.now → behind.count ≡ w.count + 1 → IsBehind w (adds i) size behind
adds_behind w behind i size next rest layout interfaces count =
    let xs = w.interfaces.now in
    let one = count_more w.count xs next.0 i next.1 in
    let long : length behind.interfaces.now ≡ length xs = ap length interfaces in
    record {
      rest = rest;
      reading = ap (λ l. reading_as l (take behind.count behind.interfaces.now)) layout
          ∙ ap (λ is. reading_as w.layout (take behind.count is)) interfaces
          ∙ ap (λ n. reading_as w.layout (take n xs)) count
          ∙ reading_more w.layout w.count xs next.0 i next.1;
      within = omega (arith, one, long, count);
      later = drop_suc w.count xs next.0 i next.1
          ∙ ap (λ n. i ∷ drop n xs) (is_suc w.count)
          ∙ ap (λ n. i ∷ drop n xs) (sym count)
          ∙ ap (λ is. i ∷ drop behind.count is) (sym interfaces);
    }

pub added_behind : (w behind : Walk) (held : Held) (i : Interface) (size : ℕ) → held ≡ adds i → Expects w held → behind.rest.now ≡ drop size w.rest.now → behind.layout ≡ w.layout
    → behind.interfaces.now ≡ w.interfaces.now → behind.count ≡ w.count + 1 → IsBehind w held size behind
added_behind w behind held i size is next rest layout interfaces count =
    subst (λ (h : Held). IsBehind w h size behind) (sym is)
    (adds_behind w behind i size (subst (λ (h : Held). Expects w h) is next) rest layout interfaces count)

-- ---- at first

pub refused_wanted : (whose : Whose) (bytes rest : List ℕ) (reading : Reading) (r : PcapRefusal) → opened bytes ≡ Err r → length rest ≡ 0
    → wanted_from whose (parts_from reading 0 rest) ≡ wanted_frames whose bytes
refused_wanted whose bytes rest reading r e none = ap (wanted_from whose) (ended reading rest none) ∙ wanted_end whose ∙ ap (λ o. wanted_through whose o bytes) (sym e)

pub refused_parts : (bytes rest : List ℕ) (reading : Reading) (r : PcapRefusal) → opened bytes ≡ Err r → length rest ≡ 0 → interfaces_in (parts_from reading 0 rest) ≡ interfaces_of bytes
refused_parts bytes rest reading r e none = ap interfaces_in (ended reading rest none) ∙ interfaces_end ∙ ap (λ o. interfaces_by o bytes) (sym e)
