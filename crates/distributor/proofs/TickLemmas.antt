-- A tick, which is applied to one chain after the other.
use Rattle.distributor.proofs.Common.{Bool, List, None, arith, cond, false, get_or, length, ltb, map, refl, subst, suc, sym, zero, ℕ, ◌&&◌, ◌+◌, ◌<◌}
use Rattle.distributor.proofs.Common.{◌∙◌, ◌≡◌, ◌≤◌, false≢true, ext_get_or, get_or-map, length-map, Assignment, Flushing, Free, IsFlagged, chain_of}
use Rattle.distributor.proofs.Common.{changed_in_chain, is_flushing, is_in_chain, slot_state, after_tick}
use Rattle.distributor.proofs.TableLemmas.{map_at}

-- a state, if the tick has passed for the chains below this one
abbrev pub ticked : ℕ → Assignment → Assignment
ticked chain (Flushing port id preferred age) = cond (ltb (chain_of port) chain) (after_tick (Flushing port id preferred age))
    (Flushing port id preferred age)
ticked chain s = s

-- whether the conversation is in the chain and waits for a Marker Response
abbrev pub is_flushing_in_chain : ℕ → Assignment → Bool
is_flushing_in_chain chain s = is_in_chain chain s && is_flushing s

-- the tick has passed for the chains below this one
pub record Ticking (chain : ℕ) (olds states : List Assignment) : Type 0 where
  pub long : length states ≡ length olds
  pub each : (k : ℕ) → slot_state states k ≡ ticked chain (slot_state olds k)

ticked_first : (s : Assignment) → s ≡ ticked 0 s
ticked_first s = grind arith

ticked_last : (s : Assignment) → ticked 64 s ≡ after_tick s
ticked_last s = grind arith

-- a chain in which nothing is Flushing
ticked_still : (c : ℕ) (s : Assignment) → is_flushing_in_chain c (ticked c s) ≡ false → ticked c s ≡ ticked (c + 1) s
ticked_still c s n = grind arith

pub tick_begins : (olds : List Assignment) → Ticking 0 olds olds
tick_begins olds = record { long = refl; each = λ k. ticked_first (slot_state olds k) }

pub tick_walked : (c : ℕ) (olds states news : List Assignment) → Ticking c olds states → news ≡ map (changed_in_chain c after_tick) states
    → Ticking (c + 1) olds news
tick_walked c olds states news h is = grind (arith, length-map, map_at)

and_none : (b : Bool) → (b && false) ≡ false
and_none b = grind arith

pub tick_passed : (c : ℕ) (olds states : List Assignment) (wanted flushing : List Bool) → Ticking c olds states
    → IsFlagged states wanted flushing → get_or flushing c false ≡ false → Ticking (c + 1) olds states
tick_passed c olds states wanted flushing h f none = grind (arith, ticked_still)

pub tick_ends : (olds states : List Assignment) → Ticking 64 olds states → states ≡ map after_tick olds
tick_ends olds states h = ext_get_or (Free None) states (map after_tick olds) (h.long ∙ sym (length-map olds after_tick))
    (λ k lt. (let low : k < length olds = omega (arith, lt, h.long) in
    h.each k ∙ ticked_last (slot_state olds k) ∙ sym (get_or-map after_tick olds k (Free None) (Free None) low)))

-- where no chain has the flag 'Flushing', a tick changes nothing
pub none_ticked : (states : List Assignment) (wanted flushing : List Bool) → IsFlagged states wanted flushing
    → ((c : ℕ) → get_or flushing c false ≡ false) → states ≡ map after_tick states
none_ticked states wanted flushing f none = tick_ends states states (passed 64)
  where
    passed : (c : ℕ) → Ticking c states states
    passed zero = tick_begins states
    passed (suc c) = let more : c + 1 ≡ suc c = omega arith in
        subst (λ n. Ticking n states states) more (tick_passed c states states wanted flushing (passed c) f (none c))
