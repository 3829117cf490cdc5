-- A port that no LACPDU was in sync with.
use Rattle.lagbeside.proofs.Common.{Bool, List, [], ap, arith, false, inl, inr, not, refl, subst, sym, true, ℕ, ◌&&◌, ◌||◌, ◌∙◌, ◌∷◌, ◌≡◌, cases_Bool}
use Rattle.lagbeside.proofs.Common.{nat_tests, Party, StateBits, is_selected, same_party, bits_of, with_synchronization, with_timeout}
use Rattle.lagbeside.proofs.Common.{encode_then_decode, Info, Lacpdu, party_of, MuxState, CollectingDistributing, Machines, partner_synchronized}
use Rattle.lagbeside.proofs.Common.{same_mux_state, receive_rows, recorded_synchronization, count_down, Reply, Call, Configure, ProcessesLacpdu}
use Rattle.lagbeside.proofs.Common.{Receive, Restart, Set_link, Tick, Transmit, choice_with_link, Setting, IsSound, SystemState, all-get, ports_rise}
use Rattle.lagbeside.proofs.Common.{EachCall, ActiveOnlyIf, Asides, Runs, Brings, IsUnanswered, LeavesUnanswered, NeverAlone, in_sync}
use Rattle.lagbeside.proofs.EachPort.{KeptByCall, KeptBySettling, OfEach, Step-each, Tick-each}
use Rattle.lagbeside.proofs.EachSetting.{KeptBySetting, asides_each, asides_sound, runs_ports}
use Rattle.lagbeside.proofs.Beside.{same_number}
use Rattle.lagbeside.proofs.Hearing.{no}
use Rattle.lagbeside.proofs.Knowing.{decoded}
use Rattle.lagbeside.proofs.OnePort.{AtPort, at_number, settling_leaves}
use Rattle.lagbeside.proofs.Timers.{RowsKeep, runs_keep}

abbrev Lonely : Party → Bool → Machines → Type 0
Lonely own may p = (p.party ≡ own) × (p.active ≡ true → may ≡ true) × IsUnanswered p

pub timed_bits : (info : Info) → bits_of (with_timeout true (with_synchronization false info.state)) ≡ record (bits_of (with_synchronization false
    info.state)) { timeout = true }
timed_bits info = encode_then_decode (record (bits_of (with_synchronization false info.state)) { timeout = true })

expired_out : (info : Info) → (bits_of (with_timeout true (with_synchronization false info.state))).synchronization ≡ false
expired_out info = ap (λ (b : StateBits). b.synchronization) (timed_bits info) ∙ ap (λ (b : StateBits). b.synchronization) (decoded false info)

lonely_rows : (own : Party) (may : Bool) → RowsKeep (Lonely own may) receive_rows
lonely_rows own may = (
  λ p a. (a.0, a.1, λ e. ap (λ (b : StateBits). b.synchronization) (decoded false p.partner)),
  (
    λ p a. (a.0, a.1, λ e. ap (λ (b : StateBits). b.synchronization) (decoded false p.partner)),
    (
      λ p a. (a.0, a.1, λ e. expired_out p.partner),
      (λ p a. (a.0, a.1, λ e. absurd (no (sym e))), (λ p a. (a.0, a.1, λ e. expired_out p.partner), tt)),
    ),
  ),
)

-- an LACPDU that is in sync with a passive port is so with an active one
less_sync : (active may sync actor partner named : Bool) → (active ≡ true → may ≡ true)
    → (sync && (actor || (may && partner)) && named) ≡ false → (sync && (actor || (active && partner)) && named) ≡ false
less_sync active may sync actor partner named e h = grind (arith, nat_tests)

lonely_takes : (own : Party) (may : Bool) (v : Lacpdu) (p q : Machines) → in_sync own may v ≡ false → ProcessesLacpdu v p q
    → Lonely own may p → Lonely own may q
lonely_takes own may v p q out h a = elim h [
  | inl f ↦ elim f [
    | inl g ↦ (let t = recorded_synchronization v p in
        let is : t ≡ false = less_sync p.active may (bits_of v.actor.state).synchronization (bits_of v.actor.state).activity
        (bits_of v.partner.state).activity (same_party (party_of v.partner) p.party || not (bits_of v.actor.state).aggregation) a.1
        (subst (λ o. in_sync o may v ≡ false) (sym a.0) out) in
        subst (Lonely own may) (sym g.1)
        (a.0, a.1, λ e. ap (λ (b : StateBits). b.synchronization) (decoded t v.actor) ∙ is))
    | inr g ↦ absurd g
  ]
  | inr r ↦ subst (Lonely own may) (sym r.1) a
]

lonely_calls : (own : Party) (may : Bool) (n : ℕ) (call : Call) (answer : Reply) → LeavesUnanswered own may n call answer
    → (call ≡ Tick → ⊥) → KeptByCall (AtPort n (Lonely own may)) call answer
lonely_calls own may n Tick answer u t = absurd (t refl)
lonely_calls own may n (Set_link m up) answer u t = λ max_links p q h a e.
    runs_keep (Lonely own may) receive_rows (lonely_rows own may)
    (record p { enabled = up; choice = choice_with_link max_links up p.choice }) q h (a e)
lonely_calls own may n (Receive m octets) answer u t = λ v p q took f h a e.
    lonely_takes own may v p q (subst (Brings (λ w. in_sync own may w ≡ false) n (Receive m octets)) took u e v f) h (a e)
lonely_calls own may n (Configure m change) answer u t = λ p q h a e. absurd (u e)
lonely_calls own may n Restart answer u t = absurd u
lonely_calls own may n (Transmit m) answer u t = λ p told a e. a e
lonely_calls own may n call answer u t = tt

lonely_settles : (own : Party) (may : Bool) (n : ℕ) → KeptBySettling (AtPort n (Lonely own may))
lonely_settles own may n = settling_leaves (AtPort n (Lonely own may))

lonely_sets : (own : Party) (may : Bool) (n : ℕ) (setting : Setting) → ActiveOnlyIf may n setting → KeptBySetting (AtPort n (Lonely own may)) setting
lonely_sets own may n setting v = grind (arith, nat_tests)

aside_lonely : (own : Party) (may : Bool) (n : ℕ) (old new : SystemState) → Asides (ActiveOnlyIf may n) old new
    → OfEach (AtPort n (Lonely own may)) old.system_ports → OfEach (AtPort n (Lonely own may)) new.system_ports
aside_lonely own may n old new h a =
    asides_each (ActiveOnlyIf may n) (AtPort n (Lonely own may)) (lonely_settles own may n) (lonely_sets own may n) old new h a

lonely_run : (own : Party) (may : Bool) (n : ℕ) (gives : ℕ → ℕ → ℕ → Type 0) (old new : SystemState) (calls : List Call) (replies : List Reply)
    (states : List SystemState) → OfEach (AtPort n (Lonely own may)) old.system_ports
    → Runs (ActiveOnlyIf may n) gives old calls replies states new
    → EachCall (LeavesUnanswered own may n) calls replies → IsSound new × OfEach (AtPort n (Lonely own may)) new.system_ports
lonely_run own may n gives old new [] [] [] a h u = (asides_sound (ActiveOnlyIf may n) old new h, aside_lonely own may n old new h a)
lonely_run own may n gives old new (Tick ∷ calls) (answer ∷ answers) (before ∷ states) a h u =
    lonely_run own may n gives h.0 new calls answers states
    (Tick-each (AtPort n (Lonely own may)) (AtPort n (Lonely own may)) (lonely_settles own may n)
    (λ m p q r b e. runs_keep (Lonely own may) receive_rows (lonely_rows own may) (count_down p) q r (b e)) gives before answer h.0 h.2
    (aside_lonely own may n old before h.1 a)) h.3 u.1
lonely_run own may n gives old new (call ∷ calls) (answer ∷ answers) (before ∷ states) a h u =
    lonely_run own may n gives h.0 new calls answers states
    (Step-each (AtPort n (Lonely own may)) (lonely_settles own may n) gives before call answer h.0
    (lonely_calls own may n call answer u.0 (λ e. cc)) h.2 (aside_lonely own may n old before h.1 a)) h.3 u.1
lonely_run own may n gives old new calls replies states a h u = absurd h

in_sync_there : (m : MuxState) (sel sync : Bool) → m ≡ CollectingDistributing
    → (same_mux_state CollectingDistributing m && (not sel || not sync)) ≡ false → sync ≡ true
in_sync_there m sel sync e h = grind (arith, nat_tests)

pub never_alone : (gives : ℕ → ℕ → ℕ → Type 0) → NeverAlone gives
never_alone gives may old new calls replies states i x y s at active first run each there m = let own = x.port.party in
    let end = lonely_run own may x.number gives old new calls replies states
    (at_number (Lonely own may) 0 old.system_ports i x (ports_rise old s.ports) at (refl, active, first)) run each in
    grind (arith, nat_tests, same_number, runs_ports, all-get, Lonely, in_sync_there, is_selected, partner_synchronized, cases_Bool, no)
