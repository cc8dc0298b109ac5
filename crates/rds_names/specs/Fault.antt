-- The number, the printed name and the words of each fault.
use Rattle.std.specs.Prelude.{ℕ, List, ◌++◌, codes, decimal}
use Rattle.rds_names.specs.declared.fault.Own.{Own}
use Rattle.rds_names.specs.declared.fault.Own.TheVariants.{Seq, Plus, Minus}
use Rattle.rds_names.specs.declared.fault.Fault.{Fault}
use Rattle.rds_names.specs.declared.fault.Fault.TheVariants.{Memory, BadName, BadKey, BadPath, BadScalar, BadRoster}
use Rattle.rds_names.specs.declared.fault.Fault.TheVariants.{SeqFull, CounterFull, Conflict, OwnAhead, WrongAsker, Cut}
use Rattle.rds_names.specs.declared.fault.Fault.TheVariants.{Bad, Extra, TooLong, TooManyDots, BadCertificate}
use Rattle.rds_names.specs.declared.fault.Fault.TheVariants.{WrongVersion, WrongGroup, WrongRoster, SameReplica}
use Rattle.rds_names.specs.declared.fault.Fault.TheVariants.{OutOfTurn, PeerEnded, Device, BadLine, NoSuch, Usage, Forked, Unsure}

abbrev pub number_of : Fault → ℕ
number_of Memory = 1
number_of BadName = 2
number_of BadKey = 3
number_of BadPath = 4
number_of BadScalar = 5
number_of BadRoster = 6
number_of SeqFull = 7
number_of CounterFull = 8
number_of (Conflict replica seq) = 9
number_of (OwnAhead own) = 10
number_of WrongAsker = 11
number_of Cut = 12
number_of Bad = 13
number_of Extra = 14
number_of TooLong = 15
number_of TooManyDots = 16
number_of BadCertificate = 17
number_of WrongVersion = 18
number_of WrongGroup = 19
number_of WrongRoster = 20
number_of SameReplica = 21
number_of OutOfTurn = 22
number_of PeerEnded = 23
number_of Device = 24
number_of BadLine = 25
number_of NoSuch = 26
number_of Usage = 27
number_of Forked = 28
number_of Unsure = 29

abbrev pub name_of : Fault → List ℕ
name_of Memory = codes "Memory"
name_of BadName = codes "BadName"
name_of BadKey = codes "BadKey"
name_of BadPath = codes "BadPath"
name_of BadScalar = codes "BadScalar"
name_of BadRoster = codes "BadRoster"
name_of SeqFull = codes "SeqFull"
name_of CounterFull = codes "CounterFull"
name_of (Conflict replica seq) = codes "Conflict"
name_of (OwnAhead own) = codes "OwnAhead"
name_of WrongAsker = codes "WrongAsker"
name_of Cut = codes "Cut"
name_of Bad = codes "Bad"
name_of Extra = codes "Extra"
name_of TooLong = codes "TooLong"
name_of TooManyDots = codes "TooManyDots"
name_of BadCertificate = codes "BadCertificate"
name_of WrongVersion = codes "WrongVersion"
name_of WrongGroup = codes "WrongGroup"
name_of WrongRoster = codes "WrongRoster"
name_of SameReplica = codes "SameReplica"
name_of OutOfTurn = codes "OutOfTurn"
name_of PeerEnded = codes "PeerEnded"
name_of Device = codes "Device"
name_of BadLine = codes "BadLine"
name_of NoSuch = codes "NoSuch"
name_of Usage = codes "Usage"
name_of Forked = codes "Forked"
name_of Unsure = codes "Unsure"

-- what of a replica's own the replica lacks
abbrev pub words_of_own : Own → List ℕ
words_of_own (Seq seq) = codes "dot " ++ (decimal seq ++ codes " of the replica's own isn't known to it")
words_of_own (Plus sum) = codes "own increments stand at " ++ (decimal sum ++ codes " elsewhere")
words_of_own (Minus sum) = codes "own decrements stand at " ++ (decimal sum ++ codes " elsewhere")

abbrev pub words_of : Fault → List ℕ
words_of Memory = codes "there was no memory left"
words_of BadName = codes "the text is no name of a replica"
words_of BadKey = codes "the text is no key"
words_of BadPath = codes "the path has more than 8 keys, or none where one is needed"
words_of BadScalar = codes "the value is none that a leaf may hold"
words_of BadRoster = codes "the roster has no name, more than 256 or one twice, or lacks a number"
words_of SeqFull = codes "the replica has used its last dot"
words_of CounterFull = codes "the counter's number would pass its limit"
words_of (Conflict replica seq) = codes "the dot " ++ (decimal seq ++ (codes " of replica " ++ (decimal replica ++ codes " has two entries")))
words_of (OwnAhead own) = words_of_own own
words_of WrongAsker = codes "the answer was made for another replica"
words_of Cut = codes "the bytes end too early"
words_of Bad = codes "the bytes are no text"
words_of Extra = codes "more bytes follow a whole text"
words_of TooLong = codes "the text or the line is longer than its limit"
words_of TooManyDots = codes "the set of dots is larger than its limit"
words_of BadCertificate = codes "the certificate of the delta doesn't hold"
words_of WrongVersion = codes "the peer speaks another version"
words_of WrongGroup = codes "the replicas are of different groups"
words_of WrongRoster = codes "the replicas have different rosters"
words_of SameReplica = codes "both ends are the same replica"
words_of OutOfTurn = codes "the peer sent another message than the one awaited"
words_of PeerEnded = codes "the peer ended before the exchange was done"
words_of Device = codes "reading, writing or another call of the system failed"
words_of BadLine = codes "the line is no command"
words_of NoSuch = codes "there is no such replica, ask or answer"
words_of Usage = codes "the words of the command line are none that the program takes"
words_of Forked = codes "both ends have seen the same, and hold different entries"
words_of Unsure = codes "it is written, and may not last: read before you repeat"

-- what is printed of a fault
abbrev pub text_of_fault : Fault → List ℕ
text_of_fault fault = name_of fault ++ (codes ": " ++ words_of fault)
