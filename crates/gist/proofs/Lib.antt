mod Giving
mod Naming
mod Numbers
mod Reading
mod Serving
mod Taking
mod Telling
mod Values
