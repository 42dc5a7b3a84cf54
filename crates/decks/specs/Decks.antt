-- Worked decks: small programs and calls run by the definition, and what was settled that they show.
use Rattle.std.specs.Prelude.{ℕ, ◌-◌, Bool, true, false, List, [], ◌∷◌, ◌++◌, map, length, replicate, filter, slice_index}
use Rattle.std.specs.List.{AllByRecursion, range_with_len}
use Rattle.storage.specs.Word.{word_of, seventeen_bits}
use Rattle.terminal.specs.Terminals.{made_terminal}
use Rattle.scanner.specs.Scanners.{scanner, scanner_control}
use Rattle.recorder.specs.Recorders.{recorder}
use Rattle.engine.specs.declared.place.Position.TheVariants.{First}
use Rattle.engine.specs.declared.state.Processor.{Processor}
use Rattle.engine.specs.Machine.{Machine, with_dev, with_books, with_processor}
use Rattle.engine.specs.Makes.{Makes}
use Rattle.engine.specs.Step.{with_totals}
use Rattle.controller.specs.declared.call.Call.{Call}
use Rattle.controller.specs.declared.call.Call.TheVariants.{Step, Start, Stop, ImmediateStop, SetSwitches, Point, LoadI, Load, Display, Clear, Search, Count}
use Rattle.controller.specs.declared.call.ClearMode.{ClearMode}
use Rattle.controller.specs.declared.call.ClearMode.TheVariants.{Run as ClearRun, Display as ClearDisplay}
use Rattle.controller.specs.declared.call.Entry.{Entry}
use Rattle.controller.specs.declared.call.Lent.TheVariants.{Opened, Other}
use Rattle.controller.specs.Console.{Answer}
use Rattle.controller.specs.Run.{run, after}
use Rattle.promises.specs.Unread.{stained_after}
use Rattle.settled.specs.Examples.{Example, Holds}
use Rattle.rig.specs.Rigs.{setup_in, opened_rig}
use Rattle.decks.specs.declared.Deck.{Deck}
use Rattle.decks.specs.declared.Deck.TheVariants.{Settled, BetweenReferences, UnreadSeven, UnreadNine, Parity, Carry, Stopped, Console, Clearing, Refusals, Limit, Immediate, Panel}
use Rattle.decks.specs.declared.TheConstants.{SETTLED, BETWEEN_REFERENCES, UNREAD_SEVEN, UNREAD_NINE, PARITY, CARRY, STOPPED, CONSOLE, CLEARING, REFUSALS, LIMIT, IMMEDIATE, PANEL}
use Rattle.decks.specs.Seen.{cycles_seen, sorts_seen, checks_seen, of_steps, answer_seen, answers_seen, seen_in, state_seen}

-- the makes of the rig's devices
abbrev pub makes : Makes
makes = record { first = scanner; second = scanner; third = scanner; fourth = recorder }

-- the rig on a core of 4,096 words that begins with these and is unprotected zeros else
abbrev pub rig_on : List ℕ → Machine
rig_on words = opened_rig (words ++ replicate (4096 - length words) (word_of 0 false))

abbrev pub plain : List ℕ → List ℕ
plain ws = map (λ d. word_of d false) ws

-- the same machine, whose first scanner has these words to bring
abbrev pub with_readings : List ℕ → Machine → Machine
with_readings words s = with_dev First (record { control = scanner_control (made_terminal (setup_in 1)) words; words = words }) s

abbrev pub calls : List Call → List Entry
calls cs = map (λ c. record { call = c; lent = Opened }) cs

abbrev pub lent_another : List Call → List Entry
lent_another cs = map (λ c. record { call = c; lent = Other }) cs

-- start, and so many steps
abbrev pub steps : ℕ → List Entry
steps n = calls (Start ∷ replicate n Step)

-- the switches: data, sense, Check Stop, and write-protect at Yes
abbrev pub switches : ℕ → ℕ → Bool → Bool → Call
switches d sense stopping at_yes = SetSwitches (record { «data» = d; sense = sense; check_stop = stopping; write_protect = at_yes })

abbrev pub lines : (Machine → Answer → List ℕ) → List Entry → Machine → List ℕ
lines f entries s = seen_in f (run makes entries s)

-- The scanner brings a word to word 9 while word 4 is loaded. Behind the lines stand word 9 and the addresses below 16 that are stained.
abbrev pub unread : ℕ → Machine
unread reading = with_readings (reading ∷ []) (rig_on (plain (0x0803 ∷ 0xC002 ∷ 0 ∷ 0 ∷ 0x0008 ∷ 0x0E00 ∷ 0 ∷ 0 ∷ 0x0001 ∷ [])))

abbrev pub unread_seen : ℕ → List ℕ
unread_seen reading =
    lines (of_steps cycles_seen) (steps 2) (unread reading)
    ++ slice_index (after makes (steps 2) (unread reading)).core 9
    ∷ filter (stained_after makes (steps 2) (unread reading)) (range_with_len 0 16)

-- a protected 1, of right parity and of wrong
abbrev pub right_one : ℕ
right_one = word_of 1 true

abbrev pub wrong_one : ℕ
wrong_one = seventeen_bits 1 true

-- The console, at a core whose words 3 and 4 are protected; the first of them has wrong parity.
abbrev pub at_console : List Entry
at_console =
    calls (Start ∷ Load ∷ Stop ∷ [])
    ++ calls (switches 0x1003 0 false false ∷ LoadI ∷ Search ∷ Display ∷ Load ∷ Clear ClearRun ∷ Display ∷ Display ∷ [])
    ++ calls (switches 3 0 false true ∷ Clear ClearDisplay ∷ LoadI ∷ Display ∷ Search ∷ Load ∷ Display ∷ Count ∷ Step ∷ Count ∷ Count ∷ Point 24 0 ∷ [])
    ++ lent_another (Start ∷ [])
    ++ calls (switches 0xFFFF 0 false true ∷ LoadI ∷ Display ∷ [])

-- Clear at No and at Yes, and each time four words: one that is not protected, two that are, and one of wrong parity that is not.
abbrev pub clear_and_display : ClearMode → Bool → List Call
clear_and_display mode at_yes = switches 0x1000 0 false at_yes ∷ Clear mode ∷ LoadI ∷ replicate 4 Display

abbrev pub clears : ClearMode → List ℕ
clears mode =
    lines answers_seen (calls (clear_and_display mode false ++ clear_and_display mode true))
    (rig_on (word_of 0x0011 false ∷ wrong_one ∷ right_one ∷ seventeen_bits 0 false ∷ []))

-- The calls that want a stopped controller, asked of one that waits; points beside the panel and at its last place. The twelve calls lent another core,
-- and over an opening that was refused.
abbrev pub while_waiting : List Call
while_waiting = Start ∷ Step ∷ LoadI ∷ Load ∷ Display ∷ Clear ClearRun ∷ Clear ClearDisplay ∷ Search ∷ Stop ∷ Point 24 0 ∷ Point 0 16 ∷ Point 23 15 ∷ []

abbrev pub twelve : List Call
twelve = Step ∷ Start ∷ Stop ∷ ImmediateStop ∷ switches 0 0 false false ∷ Point 0 0 ∷ LoadI ∷ Load ∷ Display ∷ Clear ClearRun ∷ Search ∷ Count ∷ []

abbrev pub refusals_seen : List ℕ
refusals_seen =
    lines answers_seen (calls while_waiting) (rig_on (plain (0x3000 ∷ [])))
    ++ lines (λ s r. answer_seen r) (lent_another twelve) (rig_on [])
    ++ lines (λ s r. answer_seen r) (calls twelve) (opened_rig [])

-- one program cycle is left below the limit
abbrev pub near_limit : Processor → Processor
near_limit p = with_books (with_totals (record { program = 999999999999; stolen = 0; idle = 0 }) p.books) p

abbrev pub around_stop : Machine → List ℕ
around_stop s = state_seen s ++ state_seen (after makes (calls (ImmediateStop ∷ [])) s)

-- Index registers, A and Q, Carry and Overflow are loaded, levels 0 to 15 unmasked, and the first scanner is started on a table that tells and goes on,
-- with one word to bring. A point brings the service of level 0, at word 16; there an operation check brings that of the internal level.
abbrev pub busy : Machine
busy =
    after makes (calls (Step ∷ switches 3 0xA5 false true ∷ Start ∷ replicate 7 Step ++ Point 0 5 ∷ replicate 3 Step))
    (with_readings (7 ∷ [])
    (rig_on (plain (0x6105 ∷ 0x6206 ∷ 0x6307 ∷ 0xC80E ∷ 0x2003 ∷ 0x0806 ∷ 0x0807 ∷ 0 ∷ 0x0018 ∷ 0 ∷ 0 ∷ 0x0010
    ∷ 0x0007 ∷ 0x0100 ∷ 0x0014 ∷ 0x0E00 ∷ 0 ∷ 0 ∷ 9 ∷ 10 ∷ 0xC001 ∷ 0 ∷ 0x0014 ∷ []))))

-- XIO unmasks levels 0 to 15, and reads the sense switches into word 20, which is loaded. A point brings the service of level 3, at word 24, where XIO
-- senses its status, in which bits count from the left; and with Check Stop on an operation check stops.
abbrev pub panel : List ℕ
panel =
    0x080F ∷ 0x0810 ∷ 0xC011 ∷ replicate 11 0 ++ 0x0018 ∷ 0 ∷ 0x0003 ∷ 0x0100 ∷ 0x0014 ∷ 0x0202 ∷ replicate 5 0 ++ 0x0800 ∷ 0 ∷ 0x0300 ∷ []

abbrev pub at_panel : List Call
at_panel = switches 0 0xA5 false false ∷ Start ∷ replicate 3 Step ++ Point 3 3 ∷ Step ∷ Step ∷ switches 0 0xA5 true false ∷ Step ∷ Step ∷ []

-- what each deck shows
abbrev pub shown : Deck → List ℕ
-- load, add, wait
shown Settled = lines (of_steps cycles_seen) (steps 3) (rig_on (plain (0xC002 ∷ 0x8002 ∷ 0x3000 ∷ 0x0005 ∷ 0x0003 ∷ [])))
-- A channel steals between two references of one instruction: XIO starts the first scanner on the table whose head is word 1, so its first
-- word comes to word 2, where the load stands that loads word 2. The load was fetched before the word came, and loads it.
shown BetweenReferences =
    lines (of_steps cycles_seen) (steps 2) (with_readings (7 ∷ []) (rig_on (plain (0x0C00 ∷ 0x0004 ∷ 0xC0FF ∷ 0 ∷ 0x0001 ∷ 0x0E00 ∷ []))))
-- An instrument that is not read: with readings 7 or 9 all that is seen is the same, but for the one stained word.
shown UnreadSeven = unread_seen 7
shown UnreadNine = unread_seen 9
-- Parity counts the protect bit: of two loads of a protected 1, the one with an even count of ones in all eighteen bits is a fault.
shown Parity = lines (of_steps checks_seen) (steps 2) (rig_on (plain (0xC002 ∷ 0xC002 ∷ 0 ∷ []) ++ right_one ∷ wrong_one ∷ []))
-- Carry changes with each add: -1 and 1 turn it on, 0 and 0 turn it off.
shown Carry = lines (of_steps checks_seen) (steps 3) (rig_on (plain (0xC003 ∷ 0x8003 ∷ 0x8003 ∷ 0 ∷ 0xFFFF ∷ 1 ∷ 0 ∷ [])))
-- A stopped controller serves no interrupt: XIO unmasks levels 0 to 15; a point of level 0 is latched; stopped, a step is one idle cycle and
-- I stays; started, the forced branch goes through word 11, which names 20 hexadecimal, to the word after it.
shown Stopped =
    lines (of_steps sorts_seen) (calls (Start ∷ Step ∷ Stop ∷ Point 0 0 ∷ Step ∷ Start ∷ Step ∷ []))
    (rig_on (plain (0x0803 ∷ 0 ∷ 0 ∷ 0 ∷ 0x0006 ∷ 0x0100 ∷ 0 ∷ 0 ∷ 0 ∷ 0 ∷ 0 ∷ 0x0020 ∷ [])))
shown Console = lines answers_seen at_console (rig_on (plain (0x0011 ∷ 0x0022 ∷ 0 ∷ []) ++ wrong_one ∷ right_one ∷ []))
shown Clearing = clears ClearDisplay ++ clears ClearRun
shown Refusals = refusals_seen
-- A step may pass the limit of cycles; the next is refused.
shown Limit =
    let s = rig_on (plain (0xC002 ∷ 0xC002 ∷ [])) in
    lines answers_seen (calls (Start ∷ Step ∷ Step ∷ [])) (with_processor (near_limit s.processor) s)
shown Immediate = around_stop busy
shown Panel = lines (of_steps cycles_seen) (calls at_panel) (rig_on (plain panel))

-- and what was settled for it
abbrev pub settled : Deck → List ℕ
settled Settled = SETTLED
settled BetweenReferences = BETWEEN_REFERENCES
settled UnreadSeven = UNREAD_SEVEN
settled UnreadNine = UNREAD_NINE
settled Parity = PARITY
settled Carry = CARRY
settled Stopped = STOPPED
settled Console = CONSOLE
settled Clearing = CLEARING
settled Refusals = REFUSALS
settled Limit = LIMIT
settled Immediate = IMMEDIATE
settled Panel = PANEL

abbrev pub example : Deck → Example
example d = record { worked_out = shown d; settled = settled d }

abbrev pub all : List Deck
all = Settled ∷ BetweenReferences ∷ UnreadSeven ∷ UnreadNine ∷ Parity ∷ Carry ∷ Stopped ∷ Console ∷ Clearing ∷ Refusals ∷ Limit ∷ Immediate ∷ Panel ∷ []

abbrev pub decks : List Example
decks = map example all

abbrev pub DecksHold : Type 0
DecksHold = AllByRecursion Holds decks
