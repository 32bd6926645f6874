pub mod RingEnds
