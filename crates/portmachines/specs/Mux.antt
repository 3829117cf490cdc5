-- The mux machine under coupled control (6.4.15).
use Rattle.std.specs.Prelude.{Bool, true, false, not, ◌&&◌, ◌||◌, List, [], ◌∷◌}
use Rattle.lagtypes.specs.States.{bits_of}
use Rattle.lagtypes.specs.Choices.{is_selected, is_unselected}
use Rattle.portmachines.specs.declared.mux.MuxState.{MuxState}
use Rattle.portmachines.specs.declared.mux.MuxState.TheVariants.{Detached, Waiting, Attached, CollectingDistributing}
use Rattle.portmachines.specs.Machines.{Machines}
use Rattle.portmachines.specs.Rows.{Row}

-- whether the two states are the same
abbrev pub same_mux_state : MuxState → MuxState → Bool
same_mux_state Detached Detached = true
same_mux_state Waiting Waiting = true
same_mux_state Attached Attached = true
same_mux_state CollectingDistributing CollectingDistributing = true
same_mux_state _ _ = false

-- Actor_State.Synchronization in this state
abbrev pub is_synchronized : MuxState → Bool
is_synchronized s = same_mux_state Attached s || same_mux_state CollectingDistributing s

-- Selected is SELECTED
abbrev pub selected : Machines → Bool
selected p = is_selected p.choice

-- Selected is UNSELECTED
abbrev pub unselected : Machines → Bool
unselected p = is_unselected p.choice

-- Partner_Oper_Port_State.Synchronization
abbrev pub partner_synchronized : Machines → Bool
partner_synchronized p = (bits_of p.partner.state).synchronization

-- wait_while starts with Aggregate_Wait_Time, 20 ticks
abbrev pub start_wait_while : Machines → Machines
start_wait_while p = record p { wait_while = 20 }

-- NTT true
abbrev pub set_ntt : Machines → Machines
set_ntt p = record p { ntt = true }

-- a row: from this state, if the condition holds, to that state, with the action. Synchronization, Collecting and
-- Distributing of Actor_State follow from the state.
abbrev pub mux_row : MuxState → (Machines → Bool) → MuxState → (Machines → Machines) → Row
mux_row from guard to effect =
    record {
      enabled = λ p. same_mux_state from p.mux && guard p;
      effect = λ p. effect (record p { mux = to });
    }

-- all rows of the mux machine; the argument is Ready of the aggregator that the port was given. 'Not UNSELECTED' is
-- SELECTED or STANDBY, 'not SELECTED' is UNSELECTED or STANDBY; a port that is STANDBY stays in WAITING.
abbrev pub mux_rows : Bool → List Row
mux_rows ready =
    -- DETACHED; not UNSELECTED; to WAITING; wait_while starts with 20 ticks
    mux_row Detached (λ p. not (unselected p)) Waiting start_wait_while
    -- WAITING; UNSELECTED; to DETACHED; NTT true
    ∷ mux_row Waiting unselected Detached set_ntt
    -- WAITING; SELECTED and Ready; to ATTACHED; NTT true
    ∷ mux_row Waiting (λ p. selected p && ready) Attached set_ntt
    -- ATTACHED; not SELECTED; to DETACHED; NTT true
    ∷ mux_row Attached (λ p. not (selected p)) Detached set_ntt
    -- ATTACHED; SELECTED and partner Synchronization; to COLLECTING_DISTRIBUTING; NTT true
    ∷ mux_row Attached (λ p. selected p && partner_synchronized p) CollectingDistributing set_ntt
    -- COLLECTING_DISTRIBUTING; not SELECTED, or partner Synchronization false; to ATTACHED; NTT true
    ∷ mux_row CollectingDistributing (λ p. not (selected p) || not (partner_synchronized p)) Attached set_ntt
    ∷ []

-- BEGIN, or reinit in any state; to DETACHED; NTT true
abbrev pub start_mux : Machines → Machines
start_mux p = record p { mux = Detached; ntt = true }
