-- The number of each refusal, and the layer that gives it.
use Rattle.std.specs.Prelude.{ℕ}
use Rattle.faults.specs.declared.Layer.{Layer}
use Rattle.faults.specs.declared.Layer.TheVariants as layer
use Rattle.faults.specs.declared.StoreFault.{StoreFault}
use Rattle.faults.specs.declared.StoreFault.TheVariants as store
use Rattle.faults.specs.declared.BookFault.{BookFault}
use Rattle.faults.specs.declared.BookFault.TheVariants as book
use Rattle.faults.specs.declared.AccountFault.{AccountFault}
use Rattle.faults.specs.declared.AccountFault.TheVariants as account
use Rattle.faults.specs.declared.ProgramFault.{ProgramFault}
use Rattle.faults.specs.declared.ProgramFault.TheVariants as program

-- the refusals of a store and of the making of a portion
abbrev pub store_number : StoreFault → ℕ
store_number store.TooFewSlots = 1
store_number store.NotOpen = 1
store_number store.MonthOutOfRange = 2
store_number store.AmountTooLarge = 3
store_number store.MonthTaken = 4
store_number store.WantedTooLarge = 5
store_number store.LastMonth = 6

-- every one of them is the store's own
abbrev pub store_layer : StoreFault → Layer
store_layer f = layer.Store

-- the refusals of a month book and of its price sources
abbrev pub book_number : BookFault → ℕ
book_number book.MonthOutOfRange = 2
book_number book.MarkOutOfRange = 11
book_number book.SalePriceTooHigh = 12
book_number book.ReadingTooLarge = 13
book_number book.BookComplete = 14
book_number book.NoPrice = 15
book_number book.HoursMissing = 16
book_number book.PriceOutOfRange = 17

-- every one of them is the book's own
abbrev pub book_layer : BookFault → Layer
book_layer f = layer.Book

-- the refusals of an account, and those of its stores under their own numbers
abbrev pub account_number : AccountFault → ℕ
account_number (account.InStore fault) = store_number fault
account_number account.NotOpen = 1
account_number account.MonthOutOfRange = 2
account_number account.PowerOutOfRange = 21
account_number account.PeriodUnknown = 22
account_number account.PercentageTooHigh = 23
account_number account.OtherMonth = 24
account_number account.AlreadyEntered = 25
account_number account.NothingEntered = 26
account_number account.PeriodGoesOn = 27
account_number account.NotSettled = 28
account_number account.AlreadySettled = 29
account_number account.TooFewLines = 30

-- the layer that gave it: the store, or the account itself
abbrev pub account_layer : AccountFault → Layer
account_layer (account.InStore fault) = store_layer fault
account_layer account.NotOpen = layer.Account
account_layer account.MonthOutOfRange = layer.Account
account_layer account.PowerOutOfRange = layer.Account
account_layer account.PeriodUnknown = layer.Account
account_layer account.PercentageTooHigh = layer.Account
account_layer account.OtherMonth = layer.Account
account_layer account.AlreadyEntered = layer.Account
account_layer account.NothingEntered = layer.Account
account_layer account.PeriodGoesOn = layer.Account
account_layer account.NotSettled = layer.Account
account_layer account.AlreadySettled = layer.Account
account_layer account.TooFewLines = layer.Account

-- the refusals of the program, and those of the book and the account under their own numbers
abbrev pub program_number : ProgramFault → ℕ
program_number (program.InBook fault) = book_number fault
program_number (program.InAccount fault) = account_number fault
program_number program.FileEnds = 31
program_number program.Malformed = 32
program_number program.OutOfPlace = 33

-- the layer that gave it: the book, the account or its store, or the program itself
abbrev pub program_layer : ProgramFault → Layer
program_layer (program.InBook fault) = book_layer fault
program_layer (program.InAccount fault) = account_layer fault
program_layer program.FileEnds = layer.Program
program_layer program.Malformed = layer.Program
program_layer program.OutOfPlace = layer.Program
