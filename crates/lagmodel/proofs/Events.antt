-- Every event preserves the facts of two systems, and so does every run.
use native.Mathlib.Omega.{arith}
use Rattle.lagmodel.proofs.Common.{Bool, List, None, Option, Some, [], ap, false, inl, inr, refl, subst, suc, sym, true, ℕ, ◌++◌, ◌∙◌, ◌∷◌, ◌≡◌, ◌≢◌}
use Rattle.lagmodel.proofs.Common.{◌⊎◌, false≢true, true≢false, Party, Move, Configure, ControlMessage, Force, IsSystemSetup, ModelCall}
use Rattle.lagmodel.proofs.Common.{Move_conversation, Offer, Receive, Set_link, SystemSetup, Tick, Transmit, View, first_view, is_restart, AllMoves}
use Rattle.lagmodel.proofs.Common.{CallHappens, Control, CountsChanges, Data, DeliversFirst, Event, Happens, IsWorldSetup, LosesFirst, Message, One}
use Rattle.lagmodel.proofs.Common.{RepeatsFirst, Run, SensesCable, Side, TakenLacpdu, Two, World, WorldSetup, at_cable, at_side, at_two, end_at}
use Rattle.lagmodel.proofs.Common.{first_world, handed_up, party_at, peer, with_messages, world_after_all}
use Rattle.lagmodel.specs.View.{Restart}
use Rattle.lagmodel.proofs.Lines.{Every}
use Rattle.lagmodel.proofs.Ports.{members_first}
use Rattle.lagmodel.proofs.Lanes.{Lanes}
use Rattle.lagmodel.proofs.LaneMoves.{Within, lanes_out_taken, lanes_back_taken, lanes_handed, lanes_forced, lanes_cut, lanes_joined, lanes_emptied}
use Rattle.lagmodel.proofs.LaneMoves.{lanes_restarted}
use Rattle.lagmodel.proofs.Stamps.{heard_first, stamps_out_taken, stamps_cut, stamps_emptied, stamps_counted, Stamps}
use Rattle.lagmodel.proofs.Worlds.{Half, HalfFacing, Lawful, Calling, calling_all}

-- what is left on the cables: all, or all but the first message of one
abbrev pub Popped : (ℕ → List Message) → (ℕ → List Message) → Type 0
Popped towards base = (towards ≡ base) ⊎ ((c : ℕ) × (m : Message) × (ms : List Message) × (towards c ≡ m ∷ ms)
    × (base ≡ at_cable towards c ms))

module _ {u : SystemSetup} {me : Side} {ends theirs : ℕ → Option ℕ} {v : View} {party : ℕ → Option Party} {count : ℕ → ℕ}
    {out back : ℕ → List Message} {whole : ℕ → Bool} {sent collected : ℕ → ℕ → List ℕ} {forced : ℕ → ℕ → Bool}
    {taken their_taken : ℕ → Option TakenLacpdu}
    (i : Half u me ends theirs v party count out back whole sent collected forced taken their_taken) where
  half_back : (base : ℕ → List Message) → Popped back base → Half u me ends theirs v party count out base whole sent collected forced taken their_taken
  half_back base p = record {
    members = i.members;
    stamps = i.stamps;
    heard = i.heard;
    lanes = elim p [
      | inl e ↦ subst (λ l. Lanes me ends v.flows out l whole sent collected forced) e i.lanes
      | inr x ↦ subst (λ l. Lanes me ends v.flows out l whole sent collected forced) (sym x.4) (lanes_back_taken i.lanes x.0 x.1 x.2 x.3)
    ];
  }

  half_out : (base : ℕ → List Message) → Popped out base → Half u me ends theirs v party count base back whole sent collected forced taken their_taken
  half_out base p = record {
    members = i.members;
    heard = i.heard;
    stamps = elim p [
      | inl e ↦ subst (λ l. Stamps ends theirs party count l their_taken) e i.stamps
      | inr x ↦ subst (λ l. Stamps ends theirs party count l their_taken) (sym x.4) (stamps_out_taken i.stamps x.0 x.1 x.2 x.3)
    ];
    lanes = elim p [
      | inl e ↦ subst (λ l. Lanes me ends v.flows l back whole sent collected forced) e i.lanes
      | inr x ↦ subst (λ l. Lanes me ends v.flows l back whole sent collected forced) (sym x.4) (lanes_out_taken i.lanes x.0 x.1 x.2 x.3)
    ];
  }

  -- the change counts at the end of an event
  half_counted : (new : ℕ → ℕ) → ((p : ℕ) → ((party_at v p ≡ party p) × (new p ≡ count p)) ⊎ ((party_at v p ≢ party p) × (new p ≡ suc (count p))))
      → Half u me ends theirs v (party_at v) new out back whole sent collected forced taken their_taken
  half_counted new h = record {
    members = i.members;
    lanes = i.lanes;
    heard = i.heard;
    stamps = stamps_counted ends theirs party (party_at v) count new out their_taken h i.stamps;
  }

  -- the first message is taken away, and handed up
  half_handed : (c g k n : ℕ) (ms : List Message) → ((c d p : ℕ) → ends c ≡ Some p → ends d ≡ Some p → c ≡ d) → out c ≡ Data me g k n ∷ ms
      → Half u me ends theirs v party count (at_cable out c ms) back whole sent (at_two collected g k (collected g k ++ n ∷ [])) forced taken their_taken
  half_handed c g k n ms one e = record {
    members = i.members;
    heard = i.heard;
    stamps = stamps_out_taken i.stamps c (Data me g k n) ms e;
    lanes = lanes_handed i.lanes c g k n ms one e;
  }

  -- a restart, and the change counts after it
  half_restarted : IsSystemSetup u → Half u me ends theirs (first_view u) party count (λ c. []) (λ c. []) whole sent collected forced taken their_taken
  half_restarted f = record {
    members = members_first u f;
    lanes = lanes_restarted i.lanes u.first_marker;
    stamps = stamps_emptied i.stamps;
    heard = heard_first u taken;
  }

  half_emptied : Half u me ends theirs v party count (λ c. []) (λ c. []) whole sent collected forced taken their_taken
  half_emptied = record { members = i.members; heard = i.heard; lanes = lanes_emptied i.lanes; stamps = stamps_emptied i.stamps }

  half_forced : (g k : ℕ) → Half u me ends theirs v party count out back whole sent collected (at_two forced g k true) taken their_taken
  half_forced g k = record { members = i.members; stamps = i.stamps; heard = i.heard; lanes = lanes_forced i.lanes g k }

-- the halves of a system and of its peer
both : (x : WorldSetup) (s : Side) (w : World) → HalfFacing x w s (peer s) → HalfFacing x w (peer s) s → Lawful x w
both x One w own other One = own
both x One w own other Two = other
both x Two w own other One = other
both x Two w own other Two = own

across : (x : WorldSetup) (s : Side) (w : World) → Lawful x w → HalfFacing x w (peer s) s
across x One w i = i Two
across x Two w i = i One

-- the end of a call
ended : (x : WorldSetup) (s : Side) (call : ModelCall) (stamp : ℕ) (party : Side → ℕ → Option Party) (old new : Side → ℕ
    → ℕ) (towards base : ℕ → List Message) (w : World)
    → Popped towards base → ((t : Side) (p : ℕ) → ((party_at (w.view t) p ≡ party t p) × (new t p ≡ old t p))
    ⊎ ((party_at (w.view t) p ≢ party t p) × (new t p ≡ suc (old t p))))
    → Calling x s call stamp party old towards base w → Lawful x (record w { count = new })
ended x s call stamp party old new towards base w p h i =
    both x s (record w { count = new }) (half_counted (half_back i.own (w.on_cable s) there) (new s) (rises s))
    (half_counted (half_out i.other (w.on_cable s) there) (new (peer s)) (rises (peer s)))
  where
    there : Popped towards (w.on_cable s)
    there = subst (Popped towards) (sym i.rest) p

    rises : (t : Side) (p : ℕ) → ((party_at (w.view t) p ≡ party t p) × (new t p ≡ w.count t p))
        ⊎ ((party_at (w.view t) p ≢ party t p) × (new t p ≡ suc (w.count t p)))
    rises t = subst (λ (n : Side → ℕ → ℕ). (p : ℕ) → ((party_at (w.view t) p ≡ party t p) × (new t p ≡ n t p))
        ⊎ ((party_at (w.view t) p ≢ party t p) × (new t p ≡ suc (n t p)))) (sym i.counts) (h t)

-- a whole call
call_kept : (x : WorldSetup) (s : Side) (call : ModelCall) (stamp : ℕ) (party : Side → ℕ → Option Party) (old : Side → ℕ
    → ℕ) (towards base : ℕ → List Message) (mid new : World)
    → Popped towards base → Calling x s call stamp party old towards base mid
    → (moves : List (Move × Bool)) → AllMoves x s call stamp moves mid
    → (count : Side → ℕ → ℕ)
    → ((t : Side) (p : ℕ) → ((party_at ((world_after_all x s stamp moves mid).view t) p ≡ party t p) × (count t p ≡ old t p))
    ⊎ ((party_at ((world_after_all x s stamp moves mid).view t) p ≢ party t p) × (count t p ≡ suc (old t p))))
    → new ≡ record (world_after_all x s stamp moves mid) { count = count } → Lawful x new
call_kept x s call stamp party old towards base mid new p i moves a count h e =
    subst (Lawful x) (sym e) (ended x s call stamp party old count towards base (world_after_all x s stamp moves mid) p h
    (calling_all x s call stamp party old towards base moves mid a i))

-- the start of a call, at which nothing was taken away
started : (x : WorldSetup) (s : Side) (call : ModelCall) (stamp : ℕ) (w : World) → Lawful x w
    → Within call stamp (end_at x.cables s) (w.on_cable s) w.whole (w.forced s)
    → Calling x s call stamp (λ t. party_at (w.view t)) w.count (w.on_cable s) (w.on_cable s) w
started x s call stamp w i h = record { within = h; parties = λ r p. refl; own = i s; other = across x s w i; counts = refl; rest = refl }

-- a call that brings no control PDU, takes no link down and forces nothing
abbrev pub quiet : ModelCall → Bool
quiet (Receive p (Some pdu)) = false
quiet (Set_link p up) = false
quiet (Force g k) = false
quiet Restart = false
quiet call = true

quiet-running : (call : ModelCall) → quiet call ≡ true → is_restart call ≡ false
quiet-running call h = grind arith

quiet_not : (call other : ModelCall) → quiet call ≡ true → quiet other ≡ false → call ≡ other → ⊥
quiet_not call other h n e = true≢false (sym h ∙ ap quiet e ∙ n)

within_quiet : (call : ModelCall) (stamp : ℕ) (ends : ℕ → Option ℕ) (back : ℕ → List Message) (whole : ℕ → Bool) (forced : ℕ → ℕ → Bool)
    → quiet call ≡ true → Within call stamp ends back whole forced
within_quiet call stamp ends back whole forced h = grind arith

receive_parts : (p q : ℕ) (a b : ControlMessage) → Receive p (Some a) ≡ Receive q (Some b) → (p ≡ q) × (a ≡ b)
receive_parts p q a b e = (cc, cc)

receive_link : (p q : ℕ) (a : Option ControlMessage) (up : Bool) → Receive p a ≡ Set_link q up → ⊥
receive_link p q a up e = cc

receive_force : (p g k : ℕ) (a : Option ControlMessage) → Receive p a ≡ Force g k → ⊥
receive_force p g k a e = cc

link_parts : (p q : ℕ) (a b : Bool) → Set_link p a ≡ Set_link q b → (p ≡ q) × (a ≡ b)
link_parts p q a b e = (cc, cc)

link_force : (p g k : ℕ) (a : Bool) → Set_link p a ≡ Force g k → ⊥
link_force p g k a e = cc

force_parts : (g k h j : ℕ) → Force g k ≡ Force h j → (g ≡ h) × (k ≡ j)
force_parts g k h j e = (cc, cc)

within_receive : (p : ℕ) (pdu : ControlMessage) (stamp : ℕ) (ends : ℕ → Option ℕ) (back : ℕ → List Message) (whole : ℕ → Bool) (forced : ℕ
    → ℕ → Bool) (c : ℕ) (ms : List Message)
    → ((c d p : ℕ) → ends c ≡ Some p → ends d ≡ Some p → c ≡ d) → ends c ≡ Some p → back c ≡ Control pdu stamp ∷ ms
    → Within (Receive p (Some pdu)) stamp ends back whole forced
within_receive p pdu stamp ends back whole forced c ms one there first = record {
  running = refl;
  came = λ q other e d h.
      let parts = receive_parts p q pdu other e in
      let same : c ≡ d = one c d q (there ∙ ap (λ (n : ℕ). Some n) parts.0) h in
      (ms, ap back (sym same) ∙ first ∙ ap (λ (y : ControlMessage). Control y stamp ∷ ms) parts.1);
  downed = λ q e. absurd (receive_link p q (Some pdu) false e);
  forcing = λ g k e. absurd (receive_force p g k (Some pdu) e);
}

-- the first message of a list is taken away
lawful_popped : (x : WorldSetup) (w : World) (c : ℕ) (to : Side) (m : Message) (ms : List Message) → w.on_cable to c ≡ m ∷ ms → Lawful x w
    → Lawful x (with_messages w c to ms)
lawful_popped x w c One m ms e i = let p = inr (c, m, ms, e, refl) in
    both x One (with_messages w c One ms) (half_back (i One) _ p) (half_out (i Two) _ p)
lawful_popped x w c Two m ms e i = let p = inr (c, m, ms, e, refl) in
    both x Two (with_messages w c Two ms) (half_back (i Two) _ p) (half_out (i One) _ p)

-- and handed up
lawful_handed : (x : WorldSetup) (w : World) (c : ℕ) (to : Side) (g k n : ℕ) (ms : List Message) → IsWorldSetup x → w.on_cable to c ≡ Data (peer to) g k n ∷ ms
    → Lawful x w → Lawful x (handed_up true (Data (peer to) g k n) (with_messages w c to ms))
lawful_handed x w c One g k n ms f e i = both x One (handed_up true (Data Two g k n) (with_messages w c One ms))
    (half_back (i One) _ (inr (c, Data Two g k n, ms, e, refl))) (half_handed (i Two) c g k n ms (f.cables Two) e)
lawful_handed x w c Two g k n ms f e i = both x Two (handed_up true (Data One g k n) (with_messages w c Two ms))
    (half_back (i Two) _ (inr (c, Data One g k n, ms, e, refl))) (half_handed (i One) c g k n ms (f.cables One) e)

lawful_up : (x : WorldSetup) (w : World) (c : ℕ) (to origin : Side) (g k n : ℕ) (ms : List Message) → IsWorldSetup x → origin ≡ peer to
    → w.on_cable to c ≡ Data origin g k n ∷ ms → Lawful x w → Lawful x (handed_up true (Data origin g k n) (with_messages w c to ms))
lawful_up x w c to origin g k n ms f o e i = grind (arith, handed_up, with_messages, lawful_handed)

-- frames come from the peer
from_peer : (x : WorldSetup) (w : World) (c : ℕ) (to origin : Side) (g k n : ℕ) (ms : List Message) → w.on_cable to c ≡ Data origin g k n
    ∷ ms → Lawful x w → origin ≡ peer to
from_peer x w c to origin g k n ms e i = grind arith

-- a control PDU comes, and is taken from its list first
started_popped : (x : WorldSetup) (w : World) (c : ℕ) (to : Side) (p : ℕ) (pdu : ControlMessage) (stamp : ℕ) (ms : List Message) → IsWorldSetup x
    → end_at x.cables to c ≡ Some p → w.on_cable to c ≡ Control pdu stamp ∷ ms → Lawful x w
    → Calling x to (Receive p (Some pdu)) stamp (λ t. party_at (w.view t)) w.count (w.on_cable to) (at_cable (w.on_cable to) c ms) (with_messages w c to ms)
started_popped x w c One p pdu stamp ms f h e i = record {
  within = within_receive p pdu stamp _ _ _ _ c ms (f.cables One) h e;
  parties = λ r p. refl;
  own = i One;
  other = i Two;
  counts = refl;
  rest = refl;
}
started_popped x w c Two p pdu stamp ms f h e i = record {
  within = within_receive p pdu stamp _ _ _ _ c ms (f.cables Two) h e;
  parties = λ r p. refl;
  own = i Two;
  other = i One;
  counts = refl;
  rest = refl;
}

pub comes_kept : (x : WorldSetup) (c : ℕ) (to : Side) (port : Option ℕ) (on_cable : List Message) (old new : World) → IsWorldSetup x
    → Lawful x old → end_at x.cables to c ≡ port → old.on_cable to c ≡ on_cable → DeliversFirst x c to port on_cable old new → Lawful x new
comes_kept x c to port [] old new f i h e z = subst (Lawful x) (sym z) i
comes_kept x c to None (m ∷ ms) old new f i h e z = absurd z
comes_kept x c to (Some p) (Control pdu stamp ∷ ms) old new f i h e z =
    call_kept x to (Receive p (Some pdu)) stamp (λ t. party_at (old.view t)) old.count (old.on_cable to) (at_cable (old.on_cable to) c ms)
    (with_messages old c to ms) new
    (inr (c, Control pdu stamp, ms, e, refl)) (started_popped x old c to p pdu stamp ms f h e i) z.0 z.1 z.2.0 z.2.1 z.2.2
comes_kept x c to (Some p) (Data origin g k n ∷ ms) old new f i h e z = go z.0 z.1
  where
    go : (up : Bool) → CallHappens x to (Receive p None) 0 old (handed_up up (Data origin g k n) (with_messages old c to ms)) new → Lawful x new
    go true y = call_kept x to (Receive p None) 0 (λ t. party_at (old.view t)) old.count _ _
        (handed_up true (Data origin g k n) (with_messages old c to ms)) new
        (inl refl) (started x to (Receive p None) 0 (handed_up true (Data origin g k n) (with_messages old c to ms))
        (lawful_up x old c to origin g k n ms f (from_peer x old c to origin g k n ms e i) e i) (within_quiet _ 0 _ _ _ _ refl))
        y.0 y.1 y.2.0 y.2.1 y.2.2
    go false y = call_kept x to (Receive p None) 0 (λ t. party_at (old.view t)) old.count _ _ (with_messages old c to ms) new
        (inl refl) (started x to (Receive p None) 0 (with_messages old c to ms) (lawful_popped x old c to (Data origin g k n) ms e i)
        (within_quiet _ 0 _ _ _ _ refl)) y.0 y.1 y.2.0 y.2.1 y.2.2

pub comes_again_kept : (x : WorldSetup) (c : ℕ) (to : Side) (port : Option ℕ) (on_cable : List Message) (old new : World) → IsWorldSetup x
    → Lawful x old → end_at x.cables to c ≡ port → old.on_cable to c ≡ on_cable → RepeatsFirst x c to port on_cable old new → Lawful x new
comes_again_kept x c to port [] old new f i h e z = subst (Lawful x) (sym z) i
comes_again_kept x c to port (Data origin g k n ∷ ms) old new f i h e z = subst (Lawful x) (sym z) i
comes_again_kept x c to None (Control pdu stamp ∷ ms) old new f i h e z = absurd z
comes_again_kept x c to (Some p) (Control pdu stamp ∷ ms) old new f i h e z =
    call_kept x to (Receive p (Some pdu)) stamp (λ t. party_at (old.view t)) old.count (old.on_cable to) (old.on_cable to) old new
    (inl refl) (started x to (Receive p (Some pdu)) stamp old i (within_receive p pdu stamp _ _ _ _ c ms (f.cables to) h e))
    z.0 z.1 z.2.0 z.2.1 z.2.2

lost_kept : (x : WorldSetup) (c : ℕ) (to : Side) (on_cable : List Message) (old new : World) → Lawful x old → old.on_cable to c ≡ on_cable
    → LosesFirst c to on_cable old new → Lawful x new
lost_kept x c to [] old new i e z = subst (Lawful x) (sym z) i
lost_kept x c to (m ∷ ms) old new i e z = subst (Lawful x) (sym z) (lawful_popped x old c to m ms e i)

-- a call that needs nothing known
quiet_kept : (x : WorldSetup) (s : Side) (call : ModelCall) (old new : World) → quiet call ≡ true → Lawful x old
    → CallHappens x s call 0 old old new → Lawful x new
quiet_kept x s call old new q i z =
    call_kept x s call 0 (λ t. party_at (old.view t)) old.count (old.on_cable s) (old.on_cable s) old new (inl refl)
    (started x s call 0 old i (within_quiet call 0 _ _ _ _ q)) z.0 z.1 z.2.0 z.2.1 z.2.2

-- an end senses its cable
senses_kept : (x : WorldSetup) (c : ℕ) (s : Side) (port : Option ℕ) (up : Bool) (old new : World) → IsWorldSetup x → Lawful x old
    → end_at x.cables s c ≡ port → old.whole c ≡ up → SensesCable x s port up old new → Lawful x new
senses_kept x c s None up old new f i h e z = absurd z
senses_kept x c s (Some p) up old new f i h e z =
    call_kept x s (Set_link p up) 0 (λ t. party_at (old.view t)) old.count (old.on_cable s) (old.on_cable s) old new (inl refl)
    (started x s (Set_link p up) 0 old i within) z.0 z.1 z.2.0 z.2.1 z.2.2
  where
    within : Within (Set_link p up) 0 (end_at x.cables s) (old.on_cable s) old.whole (old.forced s)
    within = record {
      running = refl;
      came = λ q pdu y. absurd (receive_link q p (Some pdu) up (sym y));
      downed = λ q y d there.
          let parts = link_parts p q up false y in
          let same : c ≡ d = f.cables s c d q (h ∙ ap (λ (n : ℕ). Some n) parts.0) there in
          ap old.whole (sym same) ∙ e ∙ parts.1;
      forcing = λ g k y. absurd (link_force p g k up y);
    }

-- a conversation is forced
lawful_forced : (x : WorldSetup) (s : Side) (g k : ℕ) (w : World) → Lawful x w
    → Lawful x (record w { forced = at_side w.forced s (at_two (w.forced s) g k true) })
lawful_forced x One g k w i One = half_forced (i One) g k
lawful_forced x One g k w i Two = i Two
lawful_forced x Two g k w i Two = half_forced (i Two) g k
lawful_forced x Two g k w i One = i One

within_force : (s : Side) (forced : Side → ℕ → ℕ → Bool) (g k : ℕ) (ends : ℕ → Option ℕ) (back : ℕ → List Message) (whole : ℕ → Bool)
    → Within (Force g k) 0 ends back whole ((at_side forced s (at_two (forced s) g k true)) s)
within_force s forced g k ends back whole = grind arith

force_kept : (x : WorldSetup) (s : Side) (g k : ℕ) (old new : World) → Lawful x old → Happens x (Event.Force s g k) old new → Lawful x new
force_kept x s g k old new i z = elim z [
  | inl e ↦ subst (Lawful x) (sym e) i
  | inr y ↦ call_kept x s (Force g k) 0 (λ t. party_at (old.view t)) old.count (old.on_cable s) (old.on_cable s)
      (record old { forced = at_side old.forced s (at_two (old.forced s) g k true) }) new
      (inl refl) (started x s (Force g k) 0 (record old { forced = at_side old.forced s (at_two (old.forced s) g k true) })
      (lawful_forced x s g k old i) (within_force s old.forced g k _ _ _)) y.0 y.1 y.2.0 y.2.1 y.2.2
]

lawful_cut : (x : WorldSetup) (w : World) (c : ℕ) → Lawful x w
    → Lawful x (record w { whole = at_cable w.whole c false; on_cable = λ s. at_cable (w.on_cable s) c [] })
lawful_cut x w c i s = grind (arith, stamps_cut, lanes_cut)

lawful_joined : (x : WorldSetup) (w : World) (c : ℕ) → Lawful x w → Lawful x (record w { whole = at_cable w.whole c true })
lawful_joined x w c i s = grind (arith, lanes_joined)

lawful_restarted : (x : WorldSetup) (s : Side) (w : World) (count : Side → ℕ → ℕ) → IsWorldSetup x
    → CountsChanges w (record w { view = at_side w.view s (first_view (x.setup s)); on_cable = λ t c. [] }) count → Lawful x w
    → Lawful x (record w { view = at_side w.view s (first_view (x.setup s)); on_cable = λ t c. []; count = count })
lawful_restarted x One w count f h i One = half_counted (half_restarted (i One) (f.setup One)) (count One) (h One)
lawful_restarted x One w count f h i Two = half_counted (half_emptied (i Two)) (count Two) (h Two)
lawful_restarted x Two w count f h i Two = half_counted (half_restarted (i Two) (f.setup Two)) (count Two) (h Two)
lawful_restarted x Two w count f h i One = half_counted (half_emptied (i One)) (count One) (h One)

-- every event
pub happens_kept : (x : WorldSetup) (e : Event) (old new : World) → IsWorldSetup x → Lawful x old → Happens x e old new → Lawful x new
happens_kept x (Event.Tick s n) old new f i z = quiet_kept x s Tick old new refl i z
happens_kept x (Event.Emit s p) old new f i z = quiet_kept x s Transmit old new refl i z
happens_kept x (Event.Deliver c to) old new f i z = comes_kept x c to (end_at x.cables to c) (old.on_cable to c) old new f i refl refl z
happens_kept x (Event.Lose c to) old new f i z = lost_kept x c to (old.on_cable to c) old new i refl z
happens_kept x (Event.Repeat c to) old new f i z = comes_again_kept x c to (end_at x.cables to c)
    (old.on_cable to c) old new f i refl refl z
happens_kept x (Event.Cut c) old new f i z = subst (Lawful x) (sym z) (lawful_cut x old c i)
happens_kept x (Event.Join c) old new f i z = subst (Lawful x) (sym z) (lawful_joined x old c i)
happens_kept x (Event.Sense c s) old new f i z = senses_kept x c s (end_at x.cables s c) (old.whole c) old new f i refl refl z
happens_kept x (Event.Restart s) old new f i z = subst (Lawful x) (sym z.2) (lawful_restarted x s old z.0 f z.1 i)
happens_kept x (Event.Configure s p change) old new f i z = quiet_kept x s Configure old new refl i z
happens_kept x (Event.Offer s g frame) old new f i z = quiet_kept x s Offer old new refl i z
happens_kept x (Event.Move_conversation s g k p) old new f i z = quiet_kept x s Move_conversation old new refl i z
happens_kept x (Event.Force s g k) old new f i z = force_kept x s g k old new i z

-- every run
pub run_kept : (x : WorldSetup) (es : List Event) (old new : World) → IsWorldSetup x → Lawful x old → Run x es old new → Lawful x new
run_kept x [] old new f i z = subst (Lawful x) (sym z) i
run_kept x (e ∷ es) old new f i z = run_kept x es z.0 new f (happens_kept x e old z.0 f i z.1) z.2

pub lawful_first : (x : WorldSetup) → IsWorldSetup x → Lawful x (first_world x)
lawful_first x f s = grind arith

pub lawful : (x : WorldSetup) (es : List Event) (w : World) → IsWorldSetup x → Run x es (first_world x) w → Lawful x w
lawful x es w f z = run_kept x es (first_world x) w f (lawful_first x f) z
