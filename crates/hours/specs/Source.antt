-- What a book learns of its price source, and what it makes of it.
use Rattle.std.specs.Prelude.{◌≡◌, ℕ, cond, List, ℤ, All, fold, Option, Result}
use Rattle.faults.specs.declared.BookFault.{BookFault}
use Rattle.hours.specs.Reading.{hours_of, needs_price, reading}
use Rattle.hours.specs.Month.{HourRead}
use Rattle.hours.specs.declared.prices.PriceSource.{Ghosts}
use Rattle.hours.specs.declared.book.Terms.{Terms}
use Rattle.hours.specs.declared.book.Tally.{Tally}

-- the price of the next hour, of a source whose state is s
abbrev pub next_price : {S : Type 0} → (G : Ghosts S) → G.State → Terms → Tally → Option ℤ
next_price G s t y = G.gives s t.month.number y.hours

-- the next hour read with the price that the source gives
abbrev pub next_reading : {S : Type 0} → (G : Ghosts S) → G.State → Terms → Tally → ℕ → ℕ → Result Tally BookFault
next_reading G s t y i e = reading t y i e (next_price G s t y)

-- the next hour as it goes into the list of what was read
abbrev pub next_hour : {S : Type 0} → (G : Ghosts S) → G.State → Terms → Tally → ℕ → ℕ → HourRead
next_hour G s t y i e = record { import = i; export = e; price = next_price G s t y }

-- the source after that: asked once where a price is needed, else untouched
abbrev pub next_state : {S : Type 0} → (G : Ghosts S) → G.State → Terms → Tally → ℕ → ℕ → G.State
next_state G s t y i e = cond (needs_price (hours_of t) y.hours i e) (G.asked s t.month.number y.hours) s

-- what asking for the places, one after the other, makes of a source
abbrev pub asked_for : {S : Type 0} → (G : Ghosts S) → ℕ → List ℕ → G.State → G.State
asked_for G m places s = fold (λ a p. G.asked a m p) s places

-- asking for places, however many, changes no later answer
abbrev pub AskingChangesNone : {S : Type 0} → Ghosts S → Type 0
AskingChangesNone G =
    (m : ℕ) (places : List ℕ) (s : G.State) (n q : ℕ) → G.gives (asked_for G m places s) n q ≡ G.gives s n q

-- two sources give the same at each of the places of a month
abbrev pub GiveAlike : {S T : Type 0} → (G : Ghosts S) (H : Ghosts T) → G.State → H.State → ℕ → List ℕ → Type 0
GiveAlike G H s s' m places = All (λ p. G.gives s m p ≡ H.gives s' m p) places
