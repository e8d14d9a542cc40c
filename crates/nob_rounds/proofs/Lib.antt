mod Repeats
mod Turns
mod Numbers
mod Ends
